-- The number of the fault with which the machine stops inside the records of a parameter.
use Rattle.mathprog_data.proofs.Common.{◌≡◌, ℕ, zero, suc, pos, Bool, true, false, cond, not, List, [], ◌∷◌, codes, Option, Some, None, refl, ap, ap₂, ◌∙◌, nat_eq, Mark, Seen, SignSeen, SymbolSeen, Open, ParamNamed, InRecords, InPlain, Stop, Go, Emit, Event, number, plain, bracket, table, subscript_count, results_path, Slice, free_count, all_free, Form, Listed, Tabbing, Name, Number}
use Rattle.std.specs.Prelude.{◌&&◌, ◌||◌}
use Rattle.mathprog_data.specs.declared.lexeme.Sign.TheVariants as signs
use Rattle.mathprog_data.specs.declared.words.Word.TheVariants as words
use Rattle.mathprog_data.proofs.FaultTests.{goes_on, cell_due, gives_due, Agrees, Agreed}

-- ---- symbols of plain data
-- whether a symbol may stand doesn't hang on its name
plain-on : (form : Form) (param : ℕ) (slice : Slice) (names : List Name) (mark : Mark) (k : ℕ) (name other : Name) (n : Option Number) → goes_on (plain form param slice names mark k name n) ≡ goes_on (plain form param slice names mark k other n)
plain-on form param slice names mark zero name other n = refl
plain-on form param slice names mark (suc k) name other n = refl

and-not : (a b : Bool) → a ≡ b → (a && not b) ≡ false
and-not true true e = refl
and-not true false e = cc
and-not false b e = refl

value-on : (b : Bool) (v w : Number) (event : Number → Event) (next : Open) → goes_on (number (cond b (Some v) (Some w)) (λ x. Emit (event x) next)) ≡ true
value-on true v w event next = refl
value-on false v w event next = refl

zero-on : (form : Form) (param : ℕ) (slice : Slice) (names : List Name) (mark : Mark) (k : ℕ) (name : Name) (v : Number) → goes_on (plain form param slice names mark k name (Some v)) ≡ true
zero-on form param slice names mark zero name v = value-on (nat_eq param results_path) (pos 0, false) v _ (InRecords form param slice true)
zero-on form param slice names mark (suc k) name v = refl

-- no value of a row is due in plain data
no-cell : (form : Form) (param : ℕ) (slice : Slice) (names : List Name) (mark : Mark) (k : ℕ) → (goes_on (plain form param slice names mark k (codes ".") None) && not (goes_on (plain form param slice names mark k (codes "x") None))) ≡ false
no-cell form param slice names mark k = and-not _ _ (plain-on form param slice names mark k (codes ".") (codes "x") None)

value-agreed : (b : Bool) (n : Option Number) (v w : Number) (event : Number → Event) (next : Open) (u g : Bool) → g ≡ false → Agrees (number (cond b (Some v) n) (λ x. Emit (event x) next)) (((goes_on (number (cond b (Some v) None) (λ x. Emit (event x) next)) || goes_on (number (cond b (Some v) None) (λ x. Emit (event x) next))) && u) ∷ false ∷ false ∷ goes_on (number (cond b (Some v) (Some w)) (λ x. Emit (event x) next)) ∷ g ∷ [])
value-agreed true n v w event next u g e = tt
value-agreed false (Some x) v w event next u g e = tt
value-agreed false None v w event next u g e = ap (λ z. false ∷ false ∷ false ∷ true ∷ z ∷ []) e

plain-agreed : (form : Form) (param : ℕ) (slice : Slice) (names : List Name) (mark : Mark) (k : ℕ) (name : Name) (n : Option Number) (u g : Bool) → g ≡ false → Agrees (plain form param slice names mark k name n) (((goes_on (plain form param slice names mark k (codes "REGION") None) || goes_on (plain form param slice names mark k (codes "YearSplit") None)) && u) ∷ false ∷ false ∷ goes_on (plain form param slice names mark k (codes "0") (Some (pos 0, false))) ∷ g ∷ [])
plain-agreed form param slice names mark zero name n u g e = value-agreed (nat_eq param results_path) n (pos 0, false) (pos 0, false) _ (InRecords form param slice true) u g e
plain-agreed form param slice names mark (suc k) name n u g e = tt

-- ---- slices and tables
bracket-agreed : (param m : ℕ) (s : Bool) → s ≡ false → Agrees (bracket param m) (false ∷ nat_eq m 0 ∷ s ∷ false ∷ false ∷ [])
bracket-agreed param zero s e = ap (λ z. false ∷ true ∷ z ∷ false ∷ false ∷ []) e
bracket-agreed param (suc m) s e = tt

-- a slice could begin, or the parameter has no subscripts
bracket-or : (param m : ℕ) → (goes_on (bracket param m) || nat_eq m 0) ≡ true
bracket-or param zero = refl
bracket-or param (suc m) = refl

table-by : (b : Bool) (next : Open) (w s g : Bool) → w ≡ true → s ≡ false → g ≡ false → Agrees (cond b (Go next) (Stop 8)) (false ∷ w ∷ s ∷ false ∷ g ∷ [])
table-by true next w s g e f h = tt
table-by false next w s g e f h = ap₂ (λ x y. false ∷ x ∷ y ∷ false ∷ g ∷ []) e f ∙ ap (λ z. false ∷ true ∷ false ∷ false ∷ z ∷ []) h

pub table-agreed : (k : ℕ) (next : Open) (w s g : Bool) → w ≡ true → s ≡ false → g ≡ false → Agrees (table k next) (false ∷ w ∷ s ∷ false ∷ g ∷ [])
table-agreed k next w s g e f h = table-by (nat_eq k 2) next w s g e f h

stop-agreed : (s : Bool) → s ≡ false → Agrees (Stop 4) (false ∷ false ∷ s ∷ false ∷ false ∷ [])
stop-agreed s e = ap (λ z. false ∷ false ∷ z ∷ false ∷ false ∷ []) e

-- ---- records
records-cell : (form : Form) (param : ℕ) (slice : Slice) (c : Bool) (at : Mark) → cell_due (InRecords form param slice c) at ≡ false
records-cell form param slice c at = no-cell form param slice [] at (free_count slice)

not-true : (b : Bool) → b ≡ true → not b ≡ false
not-true true e = refl
not-true false e = cc

records-gives : (form : Form) (param : ℕ) (slice : Slice) (c : Bool) (at : Mark) → gives_due (InRecords form param slice c) at ≡ false
records-gives Listed param slice c at = not-true _ (zero-on Listed param slice [] at (free_count slice) (codes "0") (pos 0, false))
records-gives Tabbing param slice c at = refl

pub in_records-agreed : (form : Form) (param : ℕ) (slice : Slice) (c : Bool) (x : Seen) (at : Mark) → Agreed (InRecords form param slice c) x at
in_records-agreed form param slice c (SignSeen signs.Semicolon) at = tt
in_records-agreed form param slice true (SignSeen signs.Comma) at = tt
in_records-agreed form param slice false (SignSeen signs.Comma) at = refl
in_records-agreed Listed param slice c (SignSeen signs.Gives) at = tt
in_records-agreed Tabbing param slice c (SignSeen signs.Gives) at = refl
in_records-agreed Listed param slice c (SignSeen signs.OpenBracket) at = bracket-agreed param (subscript_count param) _ (records-cell Listed param slice c at)
in_records-agreed Tabbing param slice c (SignSeen signs.OpenBracket) at = stop-agreed _ (records-cell Tabbing param slice c at)
in_records-agreed Listed param slice c (SignSeen signs.Colon) at = table-agreed (free_count slice) _ _ _ _ (bracket-or param (subscript_count param)) (records-cell Listed param slice c at) (records-gives Listed param slice c at)
in_records-agreed Tabbing param slice c (SignSeen signs.Colon) at = stop-agreed _ (records-cell Tabbing param slice c at)
in_records-agreed Listed param slice c (SignSeen signs.OpenParen) at = table-agreed (free_count slice) _ _ _ _ (bracket-or param (subscript_count param)) (records-cell Listed param slice c at) refl
in_records-agreed Tabbing param slice c (SignSeen signs.OpenParen) at = stop-agreed _ (records-cell Tabbing param slice c at)
in_records-agreed form param slice true (SignSeen signs.CloseBracket) at = refl
in_records-agreed form param slice false (SignSeen signs.CloseBracket) at = refl
in_records-agreed form param slice c (SymbolSeen w name n) at = plain-agreed form param slice [] at (free_count slice) name n _ _ (records-gives form param slice c at)
in_records-agreed form param slice c x at = refl

pub param_named-agreed : (param : ℕ) (c : Bool) (x : Seen) (at : Mark) → Agreed (ParamNamed param c) x at
param_named-agreed param c (SignSeen signs.Semicolon) at = tt
param_named-agreed param true (SignSeen signs.Comma) at = tt
param_named-agreed param false (SignSeen signs.Comma) at = refl
param_named-agreed param c (SignSeen signs.Gives) at = tt
param_named-agreed param c (SignSeen signs.OpenBracket) at = bracket-agreed param (subscript_count param) _ (records-cell Listed param (all_free (subscript_count param)) false at)
param_named-agreed param c (SignSeen signs.Colon) at = table-agreed (free_count (all_free (subscript_count param))) _ _ _ _ (bracket-or param (subscript_count param)) (records-cell Listed param (all_free (subscript_count param)) false at) (records-gives Listed param (all_free (subscript_count param)) false at)
param_named-agreed param c (SignSeen signs.OpenParen) at = table-agreed (free_count (all_free (subscript_count param))) _ _ _ _ (bracket-or param (subscript_count param)) (records-cell Listed param (all_free (subscript_count param)) false at) refl
param_named-agreed param true (SignSeen signs.CloseBracket) at = refl
param_named-agreed param false (SignSeen signs.CloseBracket) at = refl
param_named-agreed param c (SymbolSeen words.Default name n) at = tt
param_named-agreed param c (SymbolSeen w name n) at = plain-agreed Listed param (all_free (subscript_count param)) [] at (free_count (all_free (subscript_count param))) name n _ _ (records-gives Listed param (all_free (subscript_count param)) false at)
param_named-agreed param c x at = refl

pub in_plain-agreed : (form : Form) (param : ℕ) (slice : Slice) (names : List Name) (mark : Mark) (left : ℕ) (c : Bool) (x : Seen) (at : Mark) → Agreed (InPlain form param slice names mark left c) x at
in_plain-agreed form param slice names mark left true (SignSeen signs.Comma) at = tt
in_plain-agreed form param slice names mark left false (SignSeen signs.Comma) at = refl
in_plain-agreed form param slice names mark left true (SignSeen signs.CloseBracket) at = refl
in_plain-agreed form param slice names mark left false (SignSeen signs.CloseBracket) at = refl
in_plain-agreed form param slice names mark left c (SignSeen signs.Semicolon) at = stop-agreed _ (no-cell form param slice names mark left)
in_plain-agreed form param slice names mark left c (SignSeen signs.OpenBracket) at = stop-agreed _ (no-cell form param slice names mark left)
in_plain-agreed form param slice names mark left c (SignSeen signs.Colon) at = stop-agreed _ (no-cell form param slice names mark left)
in_plain-agreed form param slice names mark left c (SignSeen signs.OpenParen) at = stop-agreed _ (no-cell form param slice names mark left)
in_plain-agreed form param slice names mark left c (SymbolSeen w name n) at = plain-agreed form param slice names mark left name n _ false refl
in_plain-agreed form param slice names mark left c x at = refl
