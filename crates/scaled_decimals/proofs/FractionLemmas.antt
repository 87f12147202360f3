-- A numerator and a denominator that fit, and ones that don't.
use Rattle.scaled_decimals.proofs.Common.{◌≡◌, ℕ, ◌^◌, ◌<◌, ◌≤◌, pos, [], ◌∷◌, true, false, Bool, refl, ap, ap₂, ◌∙◌, arith, ◌&&◌, unsigned_abs, ints, InRange, in_range, all_fit, in_range-yes, in_range-no, with_sign}

pub unsigned_abs-with_sign : (negative : Bool) (n : ℕ) → unsigned_abs (with_sign negative n) ≡ n
unsigned_abs-with_sign true n = omega (arith, ints)
unsigned_abs-with_sign false n = refl

pub InRange-with_sign : (negative : Bool) (n : ℕ) → n < 2 ^ 127 → InRange (with_sign negative n)
InRange-with_sign negative n h = omega (arith, unsigned_abs-with_sign negative n)

pub fit_both : (negative : Bool) (a b : ℕ) → a < 2 ^ 127 → b < 2 ^ 127 → all_fit (with_sign negative a ∷ pos b ∷ []) ≡ true
unfolding all_fit
fit_both negative a b h k =
    ap₂ (λ x y. x && (y && true)) (in_range-yes (with_sign negative a) (InRange-with_sign negative a h)) (in_range-yes (pos b) k)

and-false : (x : Bool) → (x && false) ≡ false
and-false true = refl
and-false false = refl

pub wide_above : (negative : Bool) (a b : ℕ) → 2 ^ 127 ≤ a → all_fit (with_sign negative a ∷ pos b ∷ []) ≡ false
unfolding all_fit
wide_above negative a b h = ap (λ x. x && (in_range (pos b) && true)) (in_range-no (with_sign negative a) (omega (arith, unsigned_abs-with_sign negative a)))

pub wide_below : (negative : Bool) (a b : ℕ) → 2 ^ 127 ≤ b → all_fit (with_sign negative a ∷ pos b ∷ []) ≡ false
unfolding all_fit
wide_below negative a b h = ap (λ x. in_range (with_sign negative a) && (x && true)) (in_range-no (pos b) h) ∙ and-false (in_range (with_sign negative a))
