-- After `;` the section may end.
use Rattle.mathprog_data.proofs.Common.{◌≡◌, ℕ, zero, suc, Bool, true, false, cond, List, [], ◌∷◌, ◌++◌, Result, Ok, Err, refl, sym, ap, subst, ◌∙◌, Mark, Lexeme, Sign, Bare, Quoted, Placed, is_semicolon, Open, Fresh, DataRead, Between, EndRead, Ended, SetRead, InSet, ParamRead, ParamNamed, DefaultRead, LeadingDefault, LeadingNumber, TabbingColon, TabbingNamed, InRecords, InPlain, PlaceDue, PlaceRead, ParenRead, TrRead, TrClosed, InColumns, InRows, InRow, Reader, Draft, Turn, Stop, Go, Emit, SignSeen, seen_of, Listed, Tabbing}
use Rattle.mathprog_data.specs.declared.lexeme.Sign.TheVariants as signs
use Rattle.mathprog_data.specs.MachineRuns.{after, run}
use Rattle.mathprog_data.specs.MachineSteps.{turn, taken, step, may_end, reader, is_second}

-- wherever the turn leads, this passes
abbrev lands : (Open → Bool) → Turn → Bool
lands p (Stop fault) = true
lands p (Go next) = p next
lands p (Emit event next) = p next

landed_at : (p : Open → Bool) (b : Bool) (next : Open) (d : Draft) (r : Reader) (fault : ℕ) → cond {A = Result Reader ℕ} b (Err fault) (Ok (reader next d)) ≡ Ok r → p next ≡ true → p r.open_part ≡ true
landed_at p true next d r fault e h = cc
landed_at p false next d r fault e h = let same : reader next d ≡ r = cc in subst (λ r. p r.open_part ≡ true) same h

landed : (p : Open → Bool) (d : Draft) (t : Turn) (r : Reader) → taken d t ≡ Ok r → lands p t ≡ true → p r.open_part ≡ true
landed p d (Stop fault) r e h = cc
landed p d (Go next) r e h = let same : reader next d ≡ r = cc in subst (λ r. p r.open_part ≡ true) same h
landed p d (Emit event next) r e h = landed_at p (is_second d event) next _ r _ e h

-- after `;` the section may end
after_semicolon : (part : Open) (at : Mark) → lands may_end (turn part (SignSeen signs.Semicolon) at) ≡ true
after_semicolon Fresh at = refl
after_semicolon DataRead at = refl
after_semicolon Between at = refl
after_semicolon EndRead at = refl
after_semicolon Ended at = refl
after_semicolon SetRead at = refl
after_semicolon (InSet set c) at = refl
after_semicolon ParamRead at = refl
after_semicolon (ParamNamed param c) at = refl
after_semicolon (DefaultRead param) at = refl
after_semicolon LeadingDefault at = refl
after_semicolon (LeadingNumber v c) at = refl
after_semicolon (TabbingColon default) at = refl
after_semicolon (TabbingNamed param c) at = refl
after_semicolon (InRecords Listed param slice c) at = refl
after_semicolon (InRecords Tabbing param slice c) at = refl
after_semicolon (InPlain form param slice names mark left c) at = refl
after_semicolon (PlaceDue param places left) at = refl
after_semicolon (PlaceRead param places zero) at = refl
after_semicolon (PlaceRead param places (suc left)) at = refl
after_semicolon (ParenRead param slice) at = refl
after_semicolon (TrRead param slice) at = refl
after_semicolon (TrClosed param slice) at = refl
after_semicolon (InColumns param slice transposed columns c) at = refl
after_semicolon (InRows param slice transposed columns c) at = refl
after_semicolon (InRow param slice transposed columns row mark left c) at = refl

semicolon_seen : (lexeme : Lexeme) → is_semicolon lexeme ≡ true → seen_of lexeme ≡ SignSeen signs.Semicolon
semicolon_seen (Sign signs.Semicolon) e = refl
semicolon_seen (Sign signs.Comma) e = cc
semicolon_seen (Sign signs.Colon) e = cc
semicolon_seen (Sign signs.Gives) e = cc
semicolon_seen (Sign signs.OpenBracket) e = cc
semicolon_seen (Sign signs.CloseBracket) e = cc
semicolon_seen (Sign signs.OpenParen) e = cc
semicolon_seen (Sign signs.CloseParen) e = cc
semicolon_seen (Sign signs.Star) e = cc
semicolon_seen (Bare bytes) e = cc
semicolon_seen (Quoted bytes) e = cc

-- after a `;` that it takes the section may end
may_end_after_semicolon : (r next : Reader) (lexeme : Lexeme) (at : Mark) → step r lexeme at ≡ Ok next → is_semicolon lexeme ≡ true → may_end next.open_part ≡ true
may_end_after_semicolon r next lexeme at e f =
    landed may_end r.draft (turn r.open_part (seen_of lexeme) at) next e
    (subst (λ seen. lands may_end (turn r.open_part seen at) ≡ true) (sym (semicolon_seen lexeme f)) (after_semicolon r.open_part at))

-- after tokens of which the last is a `;` the section may end
taken_semicolon : (r next : Reader) (t : Placed) (result : Result Reader ℕ) → step r t.lexeme t.at ≡ result → after (λ beyond. Ok beyond) t.at result ≡ Ok next → is_semicolon t.lexeme ≡ true → may_end next.open_part ≡ true
taken_semicolon r next t (Ok beyond) s e f = let same : beyond ≡ next = cc in may_end_after_semicolon r next t.lexeme t.at (s ∙ ap Ok same) f
taken_semicolon r next t (Err number) s e f = cc

stepped : (next : Reader) (rest : List Placed) (at : Mark) (result : Result Reader ℕ) → ((beyond : Reader) → run beyond rest ≡ Ok next → may_end next.open_part ≡ true)
    → after (λ beyond. run beyond rest) at result ≡ Ok next → may_end next.open_part ≡ true
stepped next rest at (Ok beyond) later e = later beyond e
stepped next rest at (Err number) later e = cc

pub may_end_after : (front : List Placed) (t : Placed) (r next : Reader) → run r (front ++ t ∷ []) ≡ Ok next → is_semicolon t.lexeme ≡ true → may_end next.open_part ≡ true
may_end_after [] t r next e f = taken_semicolon r next t (step r t.lexeme t.at) refl e f
may_end_after (first ∷ front) t r next e f =
    stepped next (front ++ t ∷ []) first.at (step r first.lexeme first.at) (λ beyond later. may_end_after front t beyond next later f) e
