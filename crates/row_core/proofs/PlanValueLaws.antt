-- What a list of fractions has at a key is worth what the list of their values has there.
use Rattle.row_core.proofs.Common.{◌≡◌, ℤ, pos, Bool, true, false, List, [], ◌∷◌, map, refl, sym, ◌∙◌, if◌then◌else◌, is_eq, Ordering, Rational, whole, value_of, Frac, Var, value_at, var_cmp, valued, or_zero, value_in, number_at, ints, arith, InRange, in_range, all_fit, InRange-from_test, all_fit-cons, numbers_of}
use Rattle.std.specs.Prelude.{Option, Some, None}
use Rattle.row_core.proofs.AscendingLaws.{both_passed}

abbrev pub worth : Option Frac → Rational
worth None = whole (pos 0)
worth (Some value) = value_of value

pub value_in-valued : {K : Type 0} (cmp : K → K → Ordering) (es : List (K × Frac)) (key : K) → value_in cmp (map valued es) key ≡ worth (value_at cmp es key)
value_in-valued cmp [] key = refl
value_in-valued {K} cmp (e ∷ es) key = cases (is_eq (cmp e.0 key)) (value_in-valued cmp es key)
  where
    cases : (b : Bool) → value_in cmp (map valued es) key ≡ worth (value_at cmp es key) → or_zero (if b then Some (value_of e.1) else value_at cmp (map valued es) key) ≡ worth (if b then Some e.1 else value_at cmp es key)
    cases true rest = refl
    cases false rest = rest

abbrev pub number_or_zero : Option ℤ → ℤ
number_or_zero None = pos 0
number_or_zero (Some z) = z

-- the number of a row at a variable
pub number_at-value : (es : List (Var × ℤ)) (v : Var) → number_at es v ≡ number_or_zero (value_at var_cmp es v)
number_at-value [] v = refl
number_at-value (e ∷ es) v = cases (is_eq (var_cmp e.0 v)) (number_at-value es v)
  where
    cases : (b : Bool) → number_at es v ≡ number_or_zero (value_at var_cmp es v) → (if b then e.1 else number_at es v) ≡ number_or_zero (if b then Some e.1 else value_at var_cmp es v)
    cases true rest = refl
    cases false rest = rest

-- the numbers of entries that fit do, and so does 0
pub number_at-fits : (es : List (Var × ℤ)) (v : Var) → all_fit (numbers_of es) ≡ true → InRange (number_at es v)
number_at-fits [] v h = omega (arith, ints)
number_at-fits (e ∷ es) v h = cases (is_eq (var_cmp e.0 v)) (number_at-fits es v parts.1)
  where
    parts : (in_range e.1 ≡ true) × (all_fit (numbers_of es) ≡ true)
    parts = both_passed (in_range e.1) (all_fit (numbers_of es)) (sym (all_fit-cons e.1 (numbers_of es)) ∙ h)

    cases : (b : Bool) → InRange (number_at es v) → InRange (if b then e.1 else number_at es v)
    cases true rest = InRange-from_test e.1 parts.0
    cases false rest = rest
