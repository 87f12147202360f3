-- From each state that is reached the machine can come to an end.
use Rattle.mathprog_data.proofs.Common.{◌≡◌, ℕ, zero, suc, nat_eq, Bool, true, false, cond, List, [], ◌∷◌, ◌++◌, codes, Option, Some, None, refl, ap, subst, numerator, denominator, number_of, Mark, Lexeme, Sign, Bare, Placed, Seen, Open, Fresh, DataRead, Between, EndRead, Ended, SetRead, InSet, ParamRead, ParamNamed, DefaultRead, LeadingDefault, LeadingNumber, TabbingColon, TabbingNamed, InRecords, InPlain, PlaceDue, PlaceRead, ParenRead, TrRead, TrClosed, InColumns, InRows, InRow, Event, ValueGiven, DefaultGiven, Turn, Go, Emit, turn, number, row_left, records, reading, results_path, subscript_count, Slice, index_at, all_free, Form, Listed, Name, Number, given}
use Rattle.std.specs.Prelude.{pos}
use Rattle.mathprog_data.proofs.SectionsTaken.{Finished, finished}
use Rattle.mathprog_data.proofs.TokensSeen.{seen}
use Rattle.mathprog_data.proofs.TurnLaws.{IsSane, has_some, Holds, stop, goes, emits, holds}
use Rattle.mathprog_data.proofs.WalkLaws.{reached, Walks}
use Rattle.mathprog_data.proofs.Walks.{Takes, done, go, emit}
use Rattle.mathprog_data.specs.declared.lexeme.Sign.TheVariants as signs

-- tokens that lead to an end, and their events
pub record Ending (o : Open) : Type 0 where
  pub tokens : List Placed
  pub events : List Event
  pub way : Takes Finished o tokens events

-- a token of this lexeme, at the beginning of a text
abbrev token : Lexeme → Placed
token lexeme = record { lexeme = lexeme; from = 0; to = 0; at = record { line = 1; column = 1 } }

-- a state that goes on by this token
by_go : {o : Open} (next : Open) (l : Lexeme) → turn o (seen (token l)) (record { line = 1; column = 1 }) ≡ Go next → Ending next → Ending o
by_go next l e more = record { tokens = token l ∷ more.tokens; events = more.events; way = go e more.way }

by_emit : {o : Open} (next : Open) (l : Lexeme) (event : Event) → turn o (seen (token l)) (record { line = 1; column = 1 }) ≡ Emit event next → Ending next → Ending o
by_emit next l event e more = record { tokens = token l ∷ more.tokens; events = event ∷ more.events; way = emit e more.way }

abbrev semicolon : Lexeme
semicolon = Sign signs.Semicolon

abbrev zero_word : Lexeme
zero_word = Bare (codes "0")

end-between : Ending Between
end-between = record { tokens = []; events = []; way = done (finished refl) }

end-set : (n : ℕ) (c : Bool) → Ending (InSet n c)
end-set n c = by_emit Between semicolon _ refl end-between

end-records : (form : Form) (param : ℕ) (slice : Slice) (c : Bool) → Ending (InRecords form param slice c)
end-records form param slice c = by_emit Between semicolon _ refl end-between

end-named : (param : ℕ) (c : Bool) → Ending (ParamNamed param c)
end-named param c = by_emit Between semicolon _ refl end-between

end-tabbed : (param : ℕ) (c : Bool) → Ending (TabbingNamed param c)
end-tabbed param c = by_go _ (Sign signs.Gives) refl (end-records _ param _ false)

end-colon : (v : Option Number) → Ending (TabbingColon v)
end-colon v = by_emit _ (Bare (codes "YearSplit")) _ refl (end-tabbed _ true)

zero-reads : reading (codes "0") ≡ Some (pos 0, false)
unfolding reading number_of numerator denominator
zero-reads = refl

-- `0` is a value of each parameter
zero-value : (b : Bool) → cond b (Some (pos 0, false)) (reading (codes "0")) ≡ Some (pos 0, false)
zero-value true = refl
zero-value false = zero-reads

end-plain : (form : Form) (param : ℕ) (slice : Slice) (names : List Name) (mark : Mark) (left : ℕ) (c : Bool) → Ending (InPlain form param slice names mark left c)
end-plain form param slice names mark zero c =
    let next : Number → Turn = λ v. Emit (ValueGiven (given (index_at slice names) v mark)) (InRecords form param slice true) in
    by_emit (InRecords form param slice true) zero_word (ValueGiven (given (index_at slice names) (pos 0, false) mark)) (ap (λ n. number n next) (zero-value (nat_eq param results_path))) (end-records form param slice true)
end-plain form param slice names mark (suc left) c = by_go _ zero_word refl (end-plain form param slice _ mark left true)

-- places `*`
end-places : (param : ℕ) (places : Slice) (left : ℕ) → Ending (PlaceRead param places left)
end-places param places zero = by_go _ (Sign signs.CloseBracket) refl (end-records Listed param places true)
end-places param places (suc left) = by_go (PlaceDue param places left) (Sign signs.Comma) refl (by_go _ (Sign signs.Star) refl (end-places param (places ++ None ∷ []) left))

end-rows : (param : ℕ) (slice : Slice) (transposed : Bool) (names : List Name) (c : Bool) → Ending (InRows param slice transposed names c)
end-rows param slice transposed names c = by_emit Between semicolon _ refl end-between

end-columns : (param : ℕ) (slice : Slice) (transposed : Bool) (names : List Name) (c : Bool) → Ending (InColumns param slice transposed names c)
end-columns param slice transposed [] c = by_go _ zero_word refl (by_go _ (Sign signs.Gives) refl (end-rows param slice transposed _ false))
end-columns param slice transposed (name ∷ names) c = by_go _ (Sign signs.Gives) refl (end-rows param slice transposed _ false)

end-closed : (param : ℕ) (slice : Slice) → Ending (TrClosed param slice)
end-closed param slice = by_go _ (Sign signs.Colon) refl (end-columns param slice true [] false)

end-tr : (param : ℕ) (slice : Slice) → Ending (TrRead param slice)
end-tr param slice = by_go _ (Sign signs.CloseParen) refl (end-closed param slice)

-- a row: `.` for each column that is left
end-left : (param : ℕ) (slice : Slice) (transposed : Bool) (names : List Name) (row : Name) (mark : Mark) (left : List Name) → Ending (row_left param slice transposed names row mark left)
end-left param slice transposed names row mark [] = end-rows param slice transposed names true
end-left param slice transposed names row mark (column ∷ left) = by_go _ (Bare (codes ".")) refl (end-left param slice transposed names row mark left)

end-row : (param : ℕ) (slice : Slice) (transposed : Bool) (names : List Name) (row : Name) (mark : Mark) (left : List Name) (c : Bool) → has_some left ≡ true → Ending (InRow param slice transposed names row mark left c)
end-row param slice transposed names row mark [] c h = cc
end-row param slice transposed names row mark (column ∷ left) c h = by_go _ (Bare (codes ".")) refl (end-left param slice transposed names row mark left)

-- from each sound state
pub ending : (o : Open) → IsSane o → Ending o
ending Fresh s = record { tokens = []; events = []; way = done (finished refl) }
ending DataRead s = by_go Between semicolon refl end-between
ending Between s = end-between
ending EndRead s = by_go Ended semicolon refl (record { tokens = []; events = []; way = done (finished refl) })
ending Ended s = record { tokens = []; events = []; way = done (finished refl) }
ending SetRead s = by_emit _ (Bare (codes "REGION")) _ refl (end-set _ true)
ending (InSet n c) s = end-set n c
ending ParamRead s = by_emit _ (Bare (codes "YearSplit")) _ refl (end-named _ true)
ending (ParamNamed param c) s = end-named param c
ending (DefaultRead param) s = by_emit (records Listed param true) zero_word (DefaultGiven (pos 0, false)) (ap (λ n. number n (λ v. Emit (DefaultGiven v) (records Listed param true))) zero-reads) (end-records Listed param (all_free (subscript_count param)) true)
ending LeadingDefault s = by_go (LeadingNumber (Some (pos 0, false)) true) zero_word (ap (λ n. number n (λ v. Go (LeadingNumber (Some v) true))) zero-reads) (by_go _ (Sign signs.Colon) refl (end-colon _))
ending (LeadingNumber v c) s = by_go _ (Sign signs.Colon) refl (end-colon v)
ending (TabbingColon v) s = end-colon v
ending (TabbingNamed param c) s = end-tabbed param c
ending (InRecords form param slice c) s = end-records form param slice c
ending (InPlain form param slice names mark left c) s = end-plain form param slice names mark left c
ending (PlaceDue param places left) s = by_go _ (Sign signs.Star) refl (end-places param (places ++ None ∷ []) left)
ending (PlaceRead param places left) s = end-places param places left
ending (ParenRead param slice) s = by_go _ (Bare (codes "tr")) refl (end-tr param slice)
ending (TrRead param slice) s = end-tr param slice
ending (TrClosed param slice) s = end-closed param slice
ending (InColumns param slice transposed names c) s = end-columns param slice transposed names c
ending (InRows param slice transposed names c) s = end-rows param slice transposed names c
ending (InRow param slice transposed names row mark left c) s = end-row param slice transposed names row mark left c s.2

-- ---- every state on a way is sound
sane-go : {o next : Open} {turned : Turn} {x : Seen} → Holds o x turned → turned ≡ Go next → IsSane o → IsSane next
sane-go (stop f) e s = cc
sane-go (goes {next = after} m) e s = let same = go-is e in subst IsSane same (m.sane s)
  where
    go-is : {a b : Open} → Go a ≡ Go b → a ≡ b
    go-is h = cc
sane-go (emits m) e s = cc

sane-emit : {o next : Open} {event : Event} {turned : Turn} {x : Seen} → Holds o x turned → turned ≡ Emit event next → IsSane o → IsSane next
sane-emit (stop f) e s = cc
sane-emit (goes m) e s = cc
sane-emit (emits {next = after} m) e s = let same = emit-is e in subst IsSane same (m.sane s)
  where
    emit-is : {a b : Open} {x y : Event} → Emit x a ≡ Emit y b → a ≡ b
    emit-is h = cc

pub sane-walk : {end o : Open} {ts : List Placed} {events : List Event} → Walks o ts end events → IsSane o → IsSane end
sane-walk (done reached) s = s
sane-walk {o = o} (go {t = t} e w) s = sane-walk w (sane-go (holds o (seen t) t.at) e s)
sane-walk {o = o} (emit {t = t} e w) s = sane-walk w (sane-emit (holds o (seen t) t.at) e s)
