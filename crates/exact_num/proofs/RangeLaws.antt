-- Which numbers fit, as a test and as a fact.
use Rattle.exact_num.proofs.Common.{◌≡◌, ◌<◌, ◌≤◌, ◌^◌, ℤ, neg_ℤ, ◌*ℤ◌, true, false, sym, refl, ap, ◌∙◌, inl, inr, arith, to_z, of_z, lit<, cases_lt, nat_lt, unsigned_abs, FitsSigned, Result, Ok, Err, IsErr, IfOk, is_ok, w128, ints, to_z-of_z, fits_signed_mul, nat_tests, InRange, in_range}
use Rattle.exact_num.proofs.Integers.{unsigned_abs-neg_ℤ}

pub in_range-yes : (z : ℤ) → InRange z → in_range z ≡ true
unfolding in_range
in_range-yes z h = grind (arith, nat_tests)

pub in_range-no : (z : ℤ) → 2 ^ 127 ≤ unsigned_abs z → in_range z ≡ false
unfolding in_range
in_range-no z h = grind (arith, nat_tests)

pub InRange-from_test : (z : ℤ) → in_range z ≡ true → InRange z
unfolding in_range
InRange-from_test z h = grind (arith, nat_tests)

-- a number that fits is an i128
pub FitsSigned-from_InRange : (z : ℤ) → InRange z → FitsSigned w128 z
FitsSigned-from_InRange z h = omega (arith, ints)

-- a number that is no further from 0 than one that fits
pub InRange-le : (a b : ℤ) → unsigned_abs a ≤ unsigned_abs b → InRange b → InRange a
InRange-le a b h k = omega arith

pub InRange-neg_ℤ : (z : ℤ) → InRange z → InRange (neg_ℤ z)
InRange-neg_ℤ z h = omega (arith, ints)

-- what the test says depends on the absolute value alone
pub in_range-abs : (a b : ℤ) → unsigned_abs a ≡ unsigned_abs b → in_range a ≡ in_range b
unfolding in_range
in_range-abs a b h = ap (λ m. nat_lt m (2 ^ 127)) h

pub in_range-neg_ℤ : (z : ℤ) → in_range (neg_ℤ z) ≡ in_range z
in_range-neg_ℤ z = in_range-abs (neg_ℤ z) z (unsigned_abs-neg_ℤ z)

-- an i128 that fits, read back from its bits
pub back_in_range : (z : ℤ) → InRange z → to_z w128 (of_z w128 z) ≡ z
back_in_range z h = to_z-of_z w128 z (FitsSigned-from_InRange z h)

-- one that is no i128 doesn't fit
pub in_range-not_i128 : (z : ℤ) → ¬ (FitsSigned w128 z) → in_range z ≡ false
in_range-not_i128 z h =
    elim (cases_lt (unsigned_abs z) (2 ^ 127)) [
      | inl small ↦ absurd (h (FitsSigned-from_InRange z small))
      | inr large ↦ in_range-no z large
    ]

-- what the code's product is where its factors have 63 bits
pub narrow_is : (a b : ℤ) → FitsSigned w128 a → FitsSigned w128 b → unsigned_abs a < 2 ^ 63 → unsigned_abs b < 2 ^ 63 → to_z w128 (of_z w128 (to_z w128 (of_z w128 a) *ℤ to_z w128 (of_z w128 b))) ≡ a *ℤ b
narrow_is a b f g p q =
    let h : FitsSigned w128 (a *ℤ b) = fits_signed_mul w128 a b (2 ^ 63) (2 ^ 63) (omega arith) (omega arith) (lit< tt) in
    simp to_z-of_z

-- the same as a program's tests leave them
pub true-in_range : (z : ℤ) → InRange z → true ≡ in_range z
true-in_range z h = sym (in_range-yes z h)

pub false-in_range : (z : ℤ) → ¬ (InRange z) → false ≡ in_range z
false-in_range z h = sym (in_range-no z (omega arith))

pub false-in_range_wide : (z : ℤ) → ¬ (FitsSigned w128 z) → false ≡ in_range z
false-in_range_wide z h = sym (in_range-not_i128 z h)

pub ruleset ranges = (narrow_is, in_range-yes, in_range-no, InRange-from_test, in_range-not_i128, true-in_range, false-in_range, false-in_range_wide)

-- a result that is an error is not `Ok`
pub is_ok-false : {T E : Type 0} (r : Result T E) → IsErr r → is_ok r ≡ false
is_ok-false (Ok x) h = cc
is_ok-false (Err e) h = refl

-- what is said of a result's value goes over to an equal value
pub IfOk-equal : {T E V : Type 0} (f : T → V) (r : Result T E) {v w : V} → v ≡ w → IfOk r (λ x. f x ≡ v) → IfOk r (λ x. f x ≡ w)
IfOk-equal f (Ok x) e h = h ∙ e
IfOk-equal f (Err x) e h = h
