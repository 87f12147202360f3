-- The machine takes what a statement is spelt of, and does with it what its tree says.
use Rattle.std.proofs.Common.{◌≡◌, ℕ, zero, suc, Bool, true, false, cond, List, [], ◌∷◌, ◌++◌, Option, Some, nat_eq, sym, refl, ap, ◌∙◌, append_assoc, append-nil, arith}
use Rattle.std.specs.Prelude.{pos}
use Rattle.mathprog_data.proofs.TokensSeen.{seen, symbol-seen, number-seen}
use Rattle.mathprog_data.proofs.Walks.{Takes, emit, member_events, Loosened, set, listed, tabbed, plain, Rests, sign_go, sign_emit, symbol_go, symbol_emit, take_comma}
use Rattle.mathprog_data.proofs.Common.{Mark, Word, Placed, SignSeen, SymbolSeen, Open, Between, InSet, InRecords, InPlain, PlaceDue, PlaceRead, Event, ValueGiven, SetClosed, Turn, Emit, turn, bracket, plain_value, number, subscript_count, results_path, Slice, free_count, index_at, Places, IsPlace, Form, Listed, Tabbing, Members, Subscripts, Plain, Name, Number, IsSign, IsValue, Comma, Given, given}
use Rattle.mathprog_data.specs.declared.lexeme.Sign.TheVariants as signs
use Rattle.mathprog_data.specs.MachineSteps.{plain as plain_turn}
use Rattle.mathprog_data.specs.Slices as slices
use Rattle.mathprog_data.specs.Statements as trees
use Rattle.mathprog_data.specs.Symbols as symbols

-- ---- sets
pub take_members : (F : Open → List Placed → Type 0) → Rests F → (n : ℕ) {ts rest : List Placed} {names : List Name} {events : List Event} → Members ts rest names → Takes F Between rest events → Takes F (InSet n false) ts (member_events names (SetClosed n ∷ events))
take_members F resting n (trees.Members.close is) w = sign_emit (InSet n false) signs.Semicolon is refl w
take_members F resting n (trees.Members.gives is more) w = sign_go (InSet n false) signs.Gives is refl (take_members F resting n more w)
take_members F resting n (trees.Members.member {name = name} is c more) w = symbol_emit (InSet n false) name is (λ v k. refl) (take_comma F resting set c (take_members F resting n more w))

-- ---- plain data
-- a value is seen as a symbol, which reads as this number where one is due
abbrev SeesValue : ℕ → Placed → Number → Type 0
SeesValue param t v = (w : Word) × (name : Name) × (n : Option Number) × (seen t ≡ SymbolSeen w name n) × (cond (nat_eq param results_path) (Some (pos 0, false)) n ≡ Some v)

value-seen : {param : ℕ} {t : Placed} {v : Number} → IsValue param t v → SeesValue param t v
value-seen {t = t} {v = v} (symbols.IsValue.numeric not_path is) =
    let s = number-seen t v is in
    (s.0, s.1, Some v, s.2, ap (λ b. cond b (Some (pos 0, false)) (Some v)) not_path)
value-seen {t = t} (symbols.IsValue.any_symbol name path is) =
    let s = symbol-seen t name is in
    (s.0, name, s.1, s.2, ap (λ b. cond b (Some (pos 0, false)) s.1) path)

take_value : (F : Open → List Placed → Type 0) (o : Open) (form : Form) {param : ℕ} (slice : Slice) (names : List Name) (mark : Mark) {t : Placed} {v : Number} {ts : List Placed} {events : List Event} → IsValue param t v
    → ((w : Word) (name : Name) (n : Option Number) → turn o (SymbolSeen w name n) t.at ≡ plain_value form param slice names mark n)
    → Takes F (InRecords form param slice true) ts events → Takes F o (t ∷ ts) (ValueGiven (given (index_at slice names) v mark) ∷ events)
take_value F o form {param = param} slice names mark {t = t} is turned w =
    let s = value-seen is in
    let next : Number → Turn = λ x. Emit (ValueGiven (given (index_at slice names) x mark)) (InRecords form param slice true) in
    emit (ap (λ x. turn o x t.at) s.3 ∙ turned s.0 s.1 s.2 ∙ ap (λ m. number m next) s.4) w

take_subscripts : (F : Open → List Placed → Type 0) → Rests F → (form : Form) {param : ℕ} (slice : Slice) (mark : Mark) {u : Placed} {v : Number} {us : List Placed} {events : List Event} → IsValue param u v → Takes F (InRecords form param slice true) us events
    → (names : List Name) {left : ℕ} {ts : List Placed} {more : List Name} → Subscripts left ts (u ∷ us) more
    → Takes F (InPlain form param slice names mark left false) ts (ValueGiven (given (index_at slice (names ++ more)) v mark) ∷ events)
take_subscripts F resting form {param = param} slice mark {v = v} is w names trees.Subscripts.none =
    rw (append-nil names) (take_value F (InPlain form param slice names mark zero false) form slice names mark is (λ x y z. refl) w)
take_subscripts F resting form {param = param} slice mark is w names (trees.Subscripts.more {count = count} {name = name} {names = more} s c rest) =
    rw (← append_assoc names (name ∷ []) more) (symbol_go (InPlain form param slice names mark (suc count) false) name s (λ x y. refl) (take_comma F resting plain c (take_subscripts F resting form slice mark is w (names ++ name ∷ []) rest)))

-- the first token of plain data, where these many subscripts are free
take_first : (F : Open → List Placed → Type 0) → Rests F → (form : Form) {param : ℕ} (slice : Slice) (c : Bool) {t u : Placed} {v : Number} {us : List Placed} {events : List Event} → IsValue param u v → Takes F (InRecords form param slice true) us events
    → {count : ℕ} {ts : List Placed} {names : List Name} → free_count slice ≡ count → Subscripts count (t ∷ ts) (u ∷ us) names
    → Takes F (InRecords form param slice c) (t ∷ ts) (ValueGiven (given (index_at slice names) v t.at) ∷ events)
take_first F resting form {param = param} slice c {t = t} is w e trees.Subscripts.none =
    take_value F (InRecords form param slice c) form slice [] t.at is (λ x name n. ap (λ k. plain_turn form param slice [] t.at k name n) e) w
take_first F resting form {param = param} slice c {t = t} is w e (trees.Subscripts.more {count = count} {name = name} {names = more} s d rest) =
    symbol_go (InRecords form param slice c) name s (λ x n. ap (λ k. plain_turn form param slice [] t.at k name n) e) (take_comma F resting plain d (take_subscripts F resting form slice t.at is w (name ∷ []) rest))

pub loosened_records : (form : Form) {param : ℕ} {slice : Slice} → Loosened (InRecords form param slice false) (InRecords form param slice true)
loosened_records Listed = listed
loosened_records Tabbing = tabbed

pub take_plain : (F : Open → List Placed → Type 0) → Rests F → (form : Form) {param : ℕ} (slice : Slice) {ts rest : List Placed} {g : Given} {events : List Event} → Plain param slice ts rest g → Takes F (InRecords form param slice false) rest events
    → Takes F (InRecords form param slice false) ts (ValueGiven g ∷ events)
take_plain F resting form slice (trees.Plain.plain subscripts is c) w = take_first F resting form slice false is (take_comma F resting (loosened_records form) c w) refl subscripts

-- ---- slices
places-some : {count : ℕ} {ts rest : List Placed} {places : Slice} → Places count ts rest places → (m : ℕ) × (count ≡ suc m)
places-some (slices.Places.last p e) = (zero, refl)
places-some (slices.Places.more {count = count} p e others) = (count, refl)

place-turn : (F : Open → List Placed → Type 0) (param : ℕ) (places : Slice) (left : ℕ) {t : Placed} {place : Option Name} {ts : List Placed} {events : List Event} → IsPlace t place → Takes F (PlaceRead param (places ++ place ∷ []) left) ts events → Takes F (PlaceDue param places left) (t ∷ ts) events
place-turn F param places left (slices.IsPlace.star is) w = sign_go (PlaceDue param places left) signs.Star is refl w
place-turn F param places left (slices.IsPlace.symbol {name = name} is) w = symbol_go (PlaceDue param places left) name is (λ x n. refl) w

pub take_places : (F : Open → List Placed → Type 0) → Rests F → (param : ℕ) {rest : List Placed} {events : List Event} {count : ℕ} {ts : List Placed} {next : Slice} → Places count ts rest next
    → (places : Slice) (left : ℕ) → suc left ≡ count → Takes F (InRecords Listed param (places ++ next) true) rest events → Takes F (PlaceDue param places left) ts events
take_places F resting param (slices.Places.last {u = u} {place = place} p is) places left e w =
    let none_left : left ≡ zero = omega (arith, e) in
    place-turn F param places left p (sign_go (PlaceRead param (places ++ place ∷ []) left) signs.CloseBracket is (ap (λ k. turn (PlaceRead param (places ++ place ∷ []) k) (SignSeen signs.CloseBracket) u.at) none_left) w)
take_places F resting param (slices.Places.more {count = count} {u = u} {place = place} {places = next} p is others) places left e w =
    let some = places-some others in
    let left_is : left ≡ suc some.0 = omega (arith, e, some.1) in
    place-turn F param places left p (sign_go (PlaceRead param (places ++ place ∷ []) left) signs.Comma is (ap (λ k. turn (PlaceRead param (places ++ place ∷ []) k) (SignSeen signs.Comma) u.at) left_is)
    (take_places F resting param others (places ++ place ∷ []) some.0 (sym some.1) (rw (append_assoc places (place ∷ []) next) w)))

pub take_slice : (F : Open → List Placed → Type 0) → Rests F → (param : ℕ) (slice next : Slice) {t : Placed} {ts us : List Placed} {events : List Event} → IsSign signs.OpenBracket t → Places (subscript_count param) ts us next → Takes F (InRecords Listed param next true) us events
    → Takes F (InRecords Listed param slice false) (t ∷ ts) events
take_slice F resting param slice next is places w =
    let some = places-some places in
    sign_go (InRecords Listed param slice false) signs.OpenBracket is (ap (bracket param) some.1) (take_places F resting param places [] some.0 (sym some.1) w)
