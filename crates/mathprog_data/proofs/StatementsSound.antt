-- A step backwards of the machine keeps what may follow: sets, records, plain data and slices.
use Rattle.std.proofs.Common.{◌≡◌, ℕ, zero, suc, Bool, true, false, cond, List, [], ◌∷◌, ◌++◌, Option, Some, None, nat_eq, sym, refl, ap, ◌∙◌, subst, append_assoc, append-nil}
use Rattle.std.specs.Prelude.{pos}
use Rattle.mathprog_data.proofs.StatementsGo.{set_rest, RecordsRest, records_rest, Goes, between, in_set, in_records, in_plain, place_due, place_last, place_more, Back, back}
use Rattle.mathprog_data.proofs.TokensSeen.{seen, seen-sign, seen-symbol, seen-number}
use Rattle.mathprog_data.proofs.Common.{Mark, Word, Placed, Seen, SignSeen, SymbolSeen, Open, Between, InSet, InRecords, InPlain, PlaceDue, PlaceRead, Event, MemberNamed, ValueGiven, SetClosed, ParamClosed, Emit, turn, comma, bracket, number, subscript_count, results_path, Slice, free_count, index_at, Places, IsPlace, Form, Listed, Tabbing, Subscripts, Name, Number, IsSign, IsSymbol, IsValue, Comma, given}
use Rattle.mathprog_data.specs.declared.lexeme.Sign.TheVariants as signs
use Rattle.mathprog_data.specs.MachineSteps.{plain as plain_turn}
use Rattle.mathprog_data.specs.Slices as slices
use Rattle.mathprog_data.specs.Statements as trees
use Rattle.mathprog_data.specs.Symbols as symbols
use Rattle.mathprog_data.proofs.OptionalCommas.{none, one, comma_of}

-- ---- sets
set_semicolon : {K : Open → List Placed → Type 0} {n : ℕ} {c : Bool} {t : Placed} {ts : List Placed} → IsSign signs.Semicolon t → (events : List Event) → Goes K Between ts events → Goes K (InSet n c) (t ∷ ts) (SetClosed n ∷ events)
set_semicolon is events (between a) = in_set (set_rest none (trees.Members.close is) a)

set_gives : {K : Open → List Placed → Type 0} {n : ℕ} {c : Bool} {t : Placed} {ts : List Placed} → IsSign signs.Gives t → (events : List Event) → Goes K (InSet n false) ts events → Goes K (InSet n c) (t ∷ ts) events
set_gives is events (in_set (set_rest none members a)) = in_set (set_rest none (trees.Members.gives is members) a)

set_member : {K : Open → List Placed → Type 0} {n : ℕ} {c : Bool} {t : Placed} {ts : List Placed} (name : Name) → IsSymbol t name → (events : List Event) → Goes K (InSet n true) ts events → Goes K (InSet n c) (t ∷ ts) (MemberNamed name ∷ events)
set_member name is events (in_set (set_rest d members a)) = in_set (set_rest none (trees.Members.member is (comma_of d) members) a)

set_comma : {K : Open → List Placed → Type 0} {n : ℕ} (c : Bool) {t : Placed} {ts : List Placed} → IsSign signs.Comma t → Back K (InSet n c) (t ∷ ts) ts (comma c (InSet n false))
set_comma false is = back tt
set_comma {K = K} {n = n} true {t = t} {ts = ts} is = back step
  where
    step : (events : List Event) → Goes K (InSet n false) ts events → Goes K (InSet n true) (t ∷ ts) events
    step events (in_set (set_rest none members a)) = in_set (set_rest (one is) members a)

pub back_in_set : {K : Open → List Placed → Type 0} (n : ℕ) (c : Bool) (t : Placed) (ts : List Placed) (x : Seen) → seen t ≡ x → Back K (InSet n c) (t ∷ ts) ts (turn (InSet n c) x t.at)
back_in_set n c t ts (SignSeen signs.Semicolon) e = back (set_semicolon (seen-sign signs.Semicolon t e))
back_in_set n c t ts (SignSeen signs.Gives) e = back (set_gives (seen-sign signs.Gives t e))
back_in_set n c t ts (SignSeen signs.Comma) e = set_comma c (seen-sign signs.Comma t e)
back_in_set n c t ts (SymbolSeen w name k) e = back (set_member name (seen-symbol t w name k e))
back_in_set n c t ts x e = back tt

-- ---- records
pub records_semicolon : {K : Open → List Placed → Type 0} {form : Form} {param : ℕ} {slice : Slice} {c : Bool} {t : Placed} {ts : List Placed} → IsSign signs.Semicolon t → (events : List Event) → Goes K Between ts events → Goes K (InRecords form param slice c) (t ∷ ts) (ParamClosed param ∷ events)
records_semicolon is events (between a) = in_records none (records_rest (trees.Records.close is) a)

pub records_comma : {K : Open → List Placed → Type 0} {form : Form} {param : ℕ} {slice : Slice} (c : Bool) {t : Placed} {ts : List Placed} → IsSign signs.Comma t → Back K (InRecords form param slice c) (t ∷ ts) ts (comma c (InRecords form param slice false))
records_comma false is = back tt
records_comma {K = K} {form = form} {param = param} {slice = slice} true {t = t} {ts = ts} is = back step
  where
    step : (events : List Event) → Goes K (InRecords form param slice false) ts events → Goes K (InRecords form param slice true) (t ∷ ts) events
    step events (in_records none rest) = in_records (one is) rest

pub records_gives : {K : Open → List Placed → Type 0} {param : ℕ} {slice : Slice} {c : Bool} {t : Placed} {ts : List Placed} → IsSign signs.Gives t → (events : List Event) → Goes K (InRecords Listed param slice false) ts events → Goes K (InRecords Listed param slice c) (t ∷ ts) events
records_gives is events (in_records none (records_rest r a)) = in_records none (records_rest (trees.Records.gives is r) a)

slice_step : {K : Open → List Placed → Type 0} {param : ℕ} {slice : Slice} {c : Bool} {t : Placed} {ts : List Placed} (left : ℕ) → subscript_count param ≡ suc left → IsSign signs.OpenBracket t → (events : List Event) → Goes K (PlaceDue param [] left) ts events → Goes K (InRecords Listed param slice c) (t ∷ ts) events
slice_step {ts = ts} left e is events (place_due {next = next} {us = us} places d (records_rest r a)) =
    let P : ℕ → Type 0 = λ k. Places k ts us next in
    in_records none (records_rest (trees.Records.sliced is (subst P (sym e) places) d r) a)

pub records_bracket : {K : Open → List Placed → Type 0} {param : ℕ} {slice : Slice} {c : Bool} {t : Placed} {ts : List Placed} (count : ℕ) → subscript_count param ≡ count → IsSign signs.OpenBracket t → Back K (InRecords Listed param slice c) (t ∷ ts) ts (bracket param count)
records_bracket zero e is = back tt
records_bracket (suc left) e is = back (slice_step left e is)

-- ---- plain data
-- a number where one is due, or any symbol for ResultsPath
value_of : (param : ℕ) (t : Placed) (w : Word) (name : Name) (n : Option Number) (b : Bool) (v : Number) → seen t ≡ SymbolSeen w name n → nat_eq param results_path ≡ b → cond b (Some (pos 0, false)) n ≡ Some v → IsValue param t v
value_of param t w name n false v e is_path number =
    symbols.IsValue.numeric is_path (seen-number t w name v (e ∙ ap (SymbolSeen w name) number))
value_of param t w name n true v e is_path number =
    let same : (pos 0, false) ≡ v = cc in
    let P : Number → Type 0 = λ z. IsValue param t z in
    subst P same (symbols.IsValue.any_symbol name is_path (seen-symbol t w name n e))

-- the value at the state where its subscripts were read
value_step : {K : Open → List Placed → Type 0} (o : Open) {form : Form} {param : ℕ} {slice : Slice} {t : Placed} {ts : List Placed} (names : List Name) (mark : Mark) (m : Option Number)
    → ((v : Number) (vs : List Placed) (events : List Event) → m ≡ Some v → Comma ts vs → RecordsRest K param form slice vs events → Goes K o (t ∷ ts) (ValueGiven (given (index_at slice names) v mark) ∷ events))
    → Back K o (t ∷ ts) ts (number m (λ v. Emit (ValueGiven (given (index_at slice names) v mark)) (InRecords form param slice true)))
value_step o names mark None is = back tt
value_step {K = K} o {form = form} {param = param} {slice = slice} {t = t} {ts = ts} names mark (Some v) is = back step
  where
    step : (events : List Event) → Goes K (InRecords form param slice true) ts events → Goes K o (t ∷ ts) (ValueGiven (given (index_at slice names) v mark) ∷ events)
    step events (in_records {us = us} d r) = is v us events refl (comma_of d) r

plain_rest : {K : Open → List Placed → Type 0} {form : Form} {param : ℕ} {slice : Slice} {names : List Name} {c : Bool} {t u : Placed} {ts us vs : List Placed} {v : Number} {events : List Event} → Subscripts (free_count slice) (t ∷ ts) (u ∷ us) names → IsValue param u v → Comma us vs → RecordsRest K param form slice vs events
    → Goes K (InRecords form param slice c) (t ∷ ts) (ValueGiven (given (index_at slice names) v t.at) ∷ events)
plain_rest subscripts is d (records_rest r a) = in_records none (records_rest (trees.Records.valued (trees.Plain.plain subscripts is d) r) a)

first_step : {K : Open → List Placed → Type 0} {form : Form} {param : ℕ} {slice : Slice} {c : Bool} {t : Placed} {ts : List Placed} (name : Name) (left : ℕ) → free_count slice ≡ suc left → IsSymbol t name → (events : List Event) → Goes K (InPlain form param slice (name ∷ []) t.at left true) ts events → Goes K (InRecords form param slice c) (t ∷ ts) events
first_step {slice = slice} {t = t} {ts = ts} name left e is events (in_plain {more = more} {u = u} {vs = vs} d subscripts value f r) =
    let P : ℕ → Type 0 = λ k. Subscripts k (t ∷ ts) (u ∷ vs) (name ∷ more) in
    plain_rest (subst P (sym e) (trees.Subscripts.more is (comma_of d) subscripts)) value f r

-- the first token of plain data, where these many subscripts are free
pub records_symbol : {K : Open → List Placed → Type 0} {form : Form} {param : ℕ} {slice : Slice} {c : Bool} (t : Placed) {ts : List Placed} (w : Word) (name : Name) (n : Option Number) (count : ℕ) → free_count slice ≡ count → seen t ≡ SymbolSeen w name n
    → Back K (InRecords form param slice c) (t ∷ ts) ts (plain_turn form param slice [] t.at count name n)
records_symbol {form = form} {param = param} {slice = slice} {c = c} t {ts = ts} w name n zero e s =
    value_step (InRecords form param slice c) [] t.at (cond (nat_eq param results_path) (Some (pos 0, false)) n)
    (λ v vs events is d r.
    let P : ℕ → Type 0 = λ k. Subscripts k (t ∷ ts) (t ∷ ts) [] in
    plain_rest (subst P (sym e) trees.Subscripts.none) (value_of param t w name n (nat_eq param results_path) v s refl is) d r)
records_symbol t w name n (suc left) e s = back (first_step name left e (seen-symbol t w name n s))

plain_more : {K : Open → List Placed → Type 0} {form : Form} {param : ℕ} {slice : Slice} {names : List Name} {mark : Mark} {c : Bool} {t : Placed} {ts : List Placed} (name : Name) (left : ℕ) → IsSymbol t name → (events : List Event) → Goes K (InPlain form param slice (names ++ name ∷ []) mark left true) ts events → Goes K (InPlain form param slice names mark (suc left) c) (t ∷ ts) events
plain_more {names = names} name left is events (in_plain {more = more} d subscripts value f r) =
    rw (append_assoc names (name ∷ []) more) (in_plain none (trees.Subscripts.more is (comma_of d) subscripts) value f r)

plain_end : {K : Open → List Placed → Type 0} {o : Open} {ts : List Placed} (slice : Slice) {v : Number} {mark : Mark} {events : List Event} (names : List Name) → Goes K o ts (ValueGiven (given (index_at slice (names ++ [])) v mark) ∷ events) → Goes K o ts (ValueGiven (given (index_at slice names) v mark) ∷ events)
plain_end {K = K} {o = o} {ts = ts} slice {v = v} {mark = mark} {events = events} names g =
    let P : List Name → Type 0 = λ ns. Goes K o ts (ValueGiven (given (index_at slice ns) v mark) ∷ events) in
    subst P (append-nil names) g

plain_symbol : {K : Open → List Placed → Type 0} {form : Form} {param : ℕ} {slice : Slice} {names : List Name} {mark : Mark} {c : Bool} (t : Placed) {ts : List Placed} (w : Word) (name : Name) (n : Option Number) (left : ℕ) → seen t ≡ SymbolSeen w name n
    → Back K (InPlain form param slice names mark left c) (t ∷ ts) ts (plain_turn form param slice names mark left name n)
plain_symbol {form = form} {param = param} {slice = slice} {names = names} {mark = mark} {c = c} t {ts = ts} w name n zero s =
    value_step (InPlain form param slice names mark zero c) names mark (cond (nat_eq param results_path) (Some (pos 0, false)) n)
    (λ v vs events is d r. plain_end slice names (in_plain none trees.Subscripts.none (value_of param t w name n (nat_eq param results_path) v s refl is) d r))
plain_symbol t w name n (suc left) s = back (plain_more name left (seen-symbol t w name n s))

plain_comma : {K : Open → List Placed → Type 0} {form : Form} {param : ℕ} {slice : Slice} {names : List Name} {mark : Mark} {left : ℕ} (c : Bool) {t : Placed} {ts : List Placed} → IsSign signs.Comma t → Back K (InPlain form param slice names mark left c) (t ∷ ts) ts (comma c (InPlain form param slice names mark left false))
plain_comma false is = back tt
plain_comma {K = K} {form = form} {param = param} {slice = slice} {names = names} {mark = mark} {left = left} true {t = t} {ts = ts} is = back step
  where
    step : (events : List Event) → Goes K (InPlain form param slice names mark left false) ts events → Goes K (InPlain form param slice names mark left true) (t ∷ ts) events
    step events (in_plain none subscripts value f r) = in_plain (one is) subscripts value f r

pub back_in_plain : {K : Open → List Placed → Type 0} (form : Form) (param : ℕ) (slice : Slice) (names : List Name) (mark : Mark) (left : ℕ) (c : Bool) (t : Placed) (ts : List Placed) (x : Seen) → seen t ≡ x → Back K (InPlain form param slice names mark left c) (t ∷ ts) ts (turn (InPlain form param slice names mark left c) x t.at)
back_in_plain form param slice names mark left c t ts (SignSeen signs.Comma) e = plain_comma c (seen-sign signs.Comma t e)
back_in_plain form param slice names mark left c t ts (SymbolSeen w name n) e = plain_symbol t w name n left e
back_in_plain form param slice names mark left c t ts x e = back tt

-- ---- slices
place_step : {K : Open → List Placed → Type 0} {param : ℕ} {places : Slice} {left : ℕ} {t : Placed} {ts : List Placed} (place : Option Name) → IsPlace t place → (events : List Event) → Goes K (PlaceRead param (places ++ place ∷ []) left) ts events → Goes K (PlaceDue param places left) (t ∷ ts) events
place_step place is events (place_last close d r) = place_due (slices.Places.last is close) d r
place_step {K = K} {param = param} {places = places} place is events (place_more {next = next} {vs = vs} f others d r) =
    let P : Slice → Type 0 = λ s. RecordsRest K param Listed s vs events in
    place_due (slices.Places.more is f others) d (subst P (append_assoc places (place ∷ []) next) r)

pub back_place_due : {K : Open → List Placed → Type 0} (param : ℕ) (places : Slice) (left : ℕ) (t : Placed) (ts : List Placed) (x : Seen) → seen t ≡ x → Back K (PlaceDue param places left) (t ∷ ts) ts (turn (PlaceDue param places left) x t.at)
back_place_due param places left t ts (SignSeen signs.Star) e = back (place_step None (slices.IsPlace.star (seen-sign signs.Star t e)))
back_place_due param places left t ts (SignSeen signs.CloseBracket) e = back tt
back_place_due param places left t ts (SymbolSeen w name n) e = back (place_step (Some name) (slices.IsPlace.symbol (seen-symbol t w name n e)))
back_place_due param places left t ts x e = back tt

place_close : {K : Open → List Placed → Type 0} {param : ℕ} {places : Slice} {t : Placed} {ts : List Placed} → IsSign signs.CloseBracket t → (events : List Event) → Goes K (InRecords Listed param places true) ts events → Goes K (PlaceRead param places zero) (t ∷ ts) events
place_close is events (in_records d r) = place_last is (comma_of d) r

place_comma : {K : Open → List Placed → Type 0} {param : ℕ} {places : Slice} {left : ℕ} {t : Placed} {ts : List Placed} → IsSign signs.Comma t → (events : List Event) → Goes K (PlaceDue param places left) ts events → Goes K (PlaceRead param places (suc left)) (t ∷ ts) events
place_comma is events (place_due others d r) = place_more is others d r

pub back_place_read : {K : Open → List Placed → Type 0} (param : ℕ) (places : Slice) (left : ℕ) (t : Placed) (ts : List Placed) (x : Seen) → seen t ≡ x → Back K (PlaceRead param places left) (t ∷ ts) ts (turn (PlaceRead param places left) x t.at)
back_place_read param places zero t ts (SignSeen signs.CloseBracket) e = back (place_close (seen-sign signs.CloseBracket t e))
back_place_read param places (suc left) t ts (SignSeen signs.CloseBracket) e = back tt
back_place_read param places zero t ts (SignSeen signs.Comma) e = back tt
back_place_read param places (suc left) t ts (SignSeen signs.Comma) e = back (place_comma (seen-sign signs.Comma t e))
back_place_read param places left t ts x e = back tt
