-- What a written row keeps: ascending variables, no 0, numbers in range and without a common divisor; and that it is the terms and the right side times a positive number.
use Rattle.row_core.proofs.Common.{◌≡◌, ◌≢◌, ℕ, ◌^◌, ◌<◌, ◌≤◌, ℤ, pos, ◌+ℤ◌, ◌*ℤ◌, Bool, true, false, List, [], ◌∷◌, not, refl, sym, ap, ap₂, ◌∙◌, subst, arith, if◌then◌else◌, unsigned_abs, int_div, ◌<ℤ◌, ◌==◌, ⊤, both_true, ◌∣◌, is_lt, eq-zero_of_zero-dvd, one-dvd, Rational, int_div-mul, unsigned_abs-int_div, *ℤ_nonzero, nonzero_of_pos, unsigned_abs-zero, InRange-le, InRange-from_test, all_fit-cons, products, zero-*ℤ, +ℤ-*ℤ, *ℤ-one, Var, var_cmp, row_sum, kept, common_divisor, row_divisor, numerator_over, entries_over, entries_divided}
use Rattle.std.proofs.lemmas.Bool.{eqb-true, eqb-false}
use borrow.Author.Tests.{lt-ltb}
use Rattle.exact_num.specs.Range.{InRange, all_fit, in_range as fits}
use Rattle.row_core.specs.Numbers.{is_zero, all_zero, none_zero, in_range, all_in_range, numbers_of, variables_of, before_first, ascends, DividesAll, IsLowest}
use Rattle.row_core.proofs.AscendingLaws.{both_passed, ascends-skip}
use Rattle.row_core.proofs.DivisionLaws.{IsPartOf, ArePartsOf, exact_quotient, factor_pos, nonzero-test, common_divisor-DividesAll, common_divisor-greatest}
use Rattle.row_core.proofs.Orders.{var_cmp_total}
use Rattle.row_core.proofs.RowLaws.{times_all, IsLowest-divided}

-- a test isn't passed and not passed
no_test : (b : Bool) → b ≡ false → b ≡ true → ⊥
no_test b e h = cc

from_not : (b : Bool) → not b ≡ true → b ≡ false
from_not true h = absurd (cc h)
from_not false h = refl

-- ---- division by the common divisor

-- each number divided by g
abbrev pub numbers_divided : ℕ → List ℤ → List ℤ
numbers_divided g [] = []
numbers_divided g (z ∷ zs) = int_div z (pos g) ∷ numbers_divided g zs

pub numbers_of-divided : {K : Type 0} (g : ℕ) (es : List (K × ℤ)) → numbers_of (entries_divided g es) ≡ numbers_divided g (numbers_of es)
numbers_of-divided g [] = refl
numbers_of-divided g (e ∷ es) = ap {B = List ℤ} (λ zs. int_div e.1 (pos g) ∷ zs) (numbers_of-divided g es)

pub variables_of-divided : (g : ℕ) (es : List (Var × ℤ)) → variables_of (entries_divided g es) ≡ variables_of es
variables_of-divided g [] = refl
variables_of-divided g (e ∷ es) = ap {B = List Var} (λ vs. e.0 ∷ vs) (variables_of-divided g es)

pub variables_of-over : (d : ℤ) (terms : List (Var × Rational)) → variables_of (entries_over d terms) ≡ variables_of terms
variables_of-over d [] = refl
variables_of-over d (term ∷ terms) = ap {B = List Var} (λ vs. term.0 ∷ vs) (variables_of-over d terms)

factor_moved : (y v g : ℤ) → (y *ℤ v) *ℤ g ≡ (y *ℤ g) *ℤ v
factor_moved y v g = simp products

-- the sum of the divided entries times the divisor is the sum of the entries
pub row_sum-divided : (g : ℕ) (x : Var → ℤ) (es : List (Var × ℤ)) → DividesAll g (numbers_of es) → row_sum x (entries_divided g es) *ℤ pos g ≡ row_sum x es
row_sum-divided g x [] h = zero-*ℤ (pos g)
row_sum-divided g x (e ∷ es) h =
    +ℤ-*ℤ (int_div e.1 (pos g) *ℤ x e.0) (row_sum x (entries_divided g es)) (pos g)
    ∙ ap₂ (λ y u. y +ℤ u) (factor_moved (int_div e.1 (pos g)) (x e.0) (pos g) ∙ ap (λ y. y *ℤ x e.0) (int_div-mul e.1 g h.0)) (row_sum-divided g x es h.1)

pub times_all-divided : (g : ℕ) (zs : List ℤ) → DividesAll g zs → times_all g (numbers_divided g zs) ≡ zs
times_all-divided g [] h = refl
times_all-divided g (z ∷ zs) h = ap₂ {C = List ℤ} (λ y ys. y ∷ ys) (int_div-mul z g h.0) (times_all-divided g zs h.1)

-- ---- the divisor of a row

abbrev divisor_from : ℕ → Bool → ℕ
divisor_from g test = if test then 1 else g

one_divides : (zs : List ℤ) → DividesAll 1 zs
one_divides [] = tt
one_divides (z ∷ zs) = (one-dvd (unsigned_abs z), one_divides zs)

zeros_divided : (zs : List ℤ) → DividesAll 0 zs → all_zero (numbers_divided 1 zs) ≡ true
zeros_divided [] h = refl
zeros_divided (z ∷ zs) h =
    let zero_size : unsigned_abs z ≡ 0 = eq-zero_of_zero-dvd h.0 in
    let none : is_zero (int_div z (pos 1)) ≡ true = ap (λ y. is_zero (int_div y (pos 1))) (unsigned_abs-zero z zero_size) in
    both_true none (zeros_divided zs h.1)

-- it is positive and divides all numbers of the row, and what is left has no common divisor
pub row_divisor-is : (zs : List ℤ) → (0 < row_divisor zs) × DividesAll (row_divisor zs) zs × IsLowest (numbers_divided (row_divisor zs) zs)
row_divisor-is zs =
    let g : ℕ = common_divisor zs in
    let all : DividesAll g zs = common_divisor-DividesAll zs in
    let Fits : Bool → Type 0 = λ b. (0 < divisor_from g b) × DividesAll (divisor_from g b) zs × IsLowest (numbers_divided (divisor_from g b) zs) in
    let at_zero : (g == 0) ≡ true → Fits true =
    λ e. (omega arith, one_divides zs, λ d above divides. zeros_divided zs (subst (λ n. DividesAll n zs) (eqb-true g 0 e) all)) in
    let above_zero : (g == 0) ≡ false → Fits false =
    λ e. let positive : 0 < g = omega (arith, eqb-false g 0 e) in (
      positive,
      all,
      IsLowest-divided g (numbers_divided g zs) positive
          (λ d divides. common_divisor-greatest d zs (subst (λ ys. DividesAll d ys) (times_all-divided g zs all) divides)),
    ) in
    let cases : (b : Bool) → (g == 0) ≡ b → Fits b = λ b. elim b as (λ p. (g == 0) ≡ p → Fits p) [ true ↦ at_zero | false ↦ above_zero ] in
    cases (g == 0) refl

-- ---- the variables ascend

before_first-kept : (v : Var) (terms : List (Var × Rational)) → ascends var_cmp (v ∷ variables_of terms) ≡ true → before_first var_cmp v (variables_of (kept terms)) ≡ true
before_first-kept v [] h = refl
before_first-kept v (term ∷ terms) h =
    let later = before_first-kept v terms (ascends-skip var_cmp var_cmp_total v term.0 (variables_of terms) h) in
    let parts = both_passed (is_lt (var_cmp v term.0)) (ascends var_cmp (term.0 ∷ variables_of terms)) h in
    let cases : (b : Bool) → before_first var_cmp v (variables_of (if b then kept terms else (term ∷ kept terms))) ≡ true
    = λ b. elim b as (λ p. before_first var_cmp v (variables_of (if p then kept terms else (term ∷ kept terms))) ≡ true) [ true ↦ later | false ↦ parts.0 ] in
    cases (is_zero term.1.top)

pub ascends-kept : (terms : List (Var × Rational)) → ascends var_cmp (variables_of terms) ≡ true → ascends var_cmp (variables_of (kept terms)) ≡ true
ascends-kept [] h = refl
ascends-kept (term ∷ terms) h =
    let parts = both_passed (before_first var_cmp term.0 (variables_of terms)) (ascends var_cmp (variables_of terms)) h in
    let rest = ascends-kept terms parts.1 in
    let cases : (b : Bool) → ascends var_cmp (variables_of (if b then kept terms else (term ∷ kept terms))) ≡ true
    = λ b. elim b as (λ p. ascends var_cmp (variables_of (if p then kept terms else (term ∷ kept terms))) ≡ true) [ true ↦ rest | false ↦ both_true (before_first-kept term.0 terms h) rest ] in
    cases (is_zero term.1.top)

-- ---- no number is 0

not_zero : (z : ℤ) → z ≢ pos 0 → not (is_zero z) ≡ true
not_zero z h = ap not (nonzero-test z h)

-- no coefficient is 0
abbrev NoneZero : List (Var × Rational) → Type 0
NoneZero [] = ⊤
NoneZero (term ∷ terms) = (term.1.top ≢ pos 0) × NoneZero terms

kept-NoneZero : (terms : List (Var × Rational)) → NoneZero (kept terms)
kept-NoneZero [] = tt
kept-NoneZero (term ∷ terms) =
    let rest = kept-NoneZero terms in
    let Kept : Bool → Type 0 = λ b. NoneZero (if b then kept terms else (term ∷ kept terms)) in
    let differs : is_zero term.1.top ≡ false → term.1.top ≢ pos 0 = λ e z. absurd (no_test (is_zero term.1.top) e (ap is_zero z)) in
    let cases : (b : Bool) → is_zero term.1.top ≡ b → Kept b = λ b. elim b as (λ p. is_zero term.1.top ≡ p → Kept p) [ true ↦ λ e. rest | false ↦ λ e. (differs e, rest) ] in
    cases (is_zero term.1.top) refl

numerator_nonzero : (d : ℤ) (number : Rational) → pos 0 <ℤ d → IsPartOf d number → number.top ≢ pos 0 → numerator_over d number ≢ pos 0
numerator_nonzero d number h part top =
    let quotient : ℤ = int_div d number.bottom in
    let positive : pos 0 <ℤ quotient = factor_pos quotient number.bottom part.positive (subst (λ z. pos 0 <ℤ z) (sym (exact_quotient d number.bottom part.positive part.divides)) h) in
    *ℤ_nonzero number.top quotient top (nonzero_of_pos quotient positive)

divided_nonzero : (g : ℕ) (z : ℤ) → g ∣ unsigned_abs z → z ≢ pos 0 → int_div z (pos g) ≢ pos 0
divided_nonzero g z divides h e = h (sym (int_div-mul z g divides) ∙ ap (λ y. y *ℤ pos g) e ∙ zero-*ℤ (pos g))

none_zero-numerators : (d : ℤ) (terms : List (Var × Rational)) → pos 0 <ℤ d → NoneZero terms → ArePartsOf d terms → none_zero (numbers_of (entries_over d terms)) ≡ true
none_zero-numerators d [] h nonzero parts = refl
none_zero-numerators d (term ∷ terms) h nonzero parts =
    both_true (not_zero (numerator_over d term.1) (numerator_nonzero d term.1 h parts.0 nonzero.0)) (none_zero-numerators d terms h nonzero.1 parts.1)

-- the entries of terms without coefficients of 0
pub none_zero-over : (d : ℤ) (terms : List (Var × Rational)) → pos 0 <ℤ d → ArePartsOf d (kept terms) → none_zero (numbers_of (entries_over d (kept terms))) ≡ true
none_zero-over d terms h parts = none_zero-numerators d (kept terms) h (kept-NoneZero terms) parts

-- and what is left of them after a division
pub none_zero-divided : (g : ℕ) (zs : List ℤ) → none_zero zs ≡ true → DividesAll g zs → none_zero (numbers_divided g zs) ≡ true
none_zero-divided g [] h divides = refl
none_zero-divided g (z ∷ zs) h divides =
    let parts = both_passed (not (is_zero z)) (none_zero zs) h in
    let nonzero : z ≢ pos 0 = λ e. no_test (is_zero z) (from_not (is_zero z) parts.0) (ap is_zero e) in
    both_true (not_zero (int_div z (pos g)) (divided_nonzero g z divides.0 nonzero)) (none_zero-divided g zs parts.1 divides.1)

-- ---- numbers in range

divided_in_range : (g : ℕ) (z : ℤ) → InRange z → in_range (int_div z (pos g)) ≡ true
divided_in_range g z h =
    let smaller : unsigned_abs (int_div z (pos g)) ≤ unsigned_abs z = omega (arith, unsigned_abs-int_div z g) in
    let fits : InRange (int_div z (pos g)) = InRange-le (int_div z (pos g)) z smaller h in
    lt-ltb (unsigned_abs (int_div z (pos g))) (2 ^ 127) fits

pub all_in_range-divided : (g : ℕ) (zs : List ℤ) → all_fit zs ≡ true → all_in_range (numbers_divided g zs) ≡ true
all_in_range-divided g [] h = refl
all_in_range-divided g (z ∷ zs) h =
    let parts = both_passed (fits z) (all_fit zs) (sym (all_fit-cons z zs) ∙ h) in
    both_true (divided_in_range g z (InRange-from_test z parts.0)) (all_in_range-divided g zs parts.1)

-- ---- the numbers of the divided row

-- a division by 1 changes nothing
pub entries_divided-one : {K : Type 0} (es : List (K × ℤ)) → entries_divided 1 es ≡ es
entries_divided-one [] = refl
entries_divided-one {K} (e ∷ es) =
    let same : int_div e.1 (pos 1) ≡ e.1 = sym (*ℤ-one (int_div e.1 (pos 1))) ∙ int_div-mul e.1 1 (one-dvd (unsigned_abs e.1)) in
    ap₂ {C = List (K × ℤ)} (λ z ys. (e.0, z) ∷ ys) same (entries_divided-one es)
