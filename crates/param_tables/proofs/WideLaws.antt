-- Products that are far above all values: how large they are, and their sign.
use Rattle.param_tables.proofs.Common.{◌≡◌, ℕ, zero, suc, ◌*◌, ◌^◌, ◌<◌, ◌≤◌, ℤ, pos, negsuc, Bool, true, false, not, refl, sym, ap, ap₂, ◌∙◌, subst, arith, le-ltb, int_lt, if◌then◌else◌, Range, IsInRange, IsWithinLimit, billion, whole}
use Rattle.std.specs.Bool.{beq}
use Rattle.std.specs.Prelude.{◌*ℤ◌, neg_ℤ, unsigned_abs}
use Rattle.std.proofs.Math.IntN.{negsuc-*ℤ-negsuc, negsuc-*ℤ-pos, pos-*ℤ-negsuc, pos-*ℤ-pos}
use Rattle.std.proofs.lemmas.Int.{unsigned_abs-mul}
use Rattle.model_sets.specs.declared.params.Range.TheVariants.{Lifetime}
use Rattle.scaled_decimals.specs.Rounding.{nearest}
use Rattle.param_tables.specs.Changes.{product}

abs-neg : (n : ℕ) → unsigned_abs (neg_ℤ (pos n)) ≡ n
abs-neg zero = refl
abs-neg (suc n) = refl

lt-neg : (n : ℕ) → 0 < n → int_lt (neg_ℤ (pos n)) (pos 0) ≡ true
lt-neg zero some = absurd (omega arith)
lt-neg (suc n) some = refl

not_below : (n : ℕ) → int_lt (pos n) (pos 0) ≡ false
not_below n = le-ltb n 0 (omega arith)

product_size : (v w : ℤ) → unsigned_abs (product v w) ≡ nearest (unsigned_abs (v *ℤ w)) billion
product_size v w = by (int_lt (v *ℤ w) (pos 0))
  where
    by : (b : Bool) → unsigned_abs (if b then neg_ℤ (pos (nearest (unsigned_abs (v *ℤ w)) billion)) else pos (nearest (unsigned_abs (v *ℤ w)) billion)) ≡ nearest (unsigned_abs (v *ℤ w)) billion
    by true = abs-neg (nearest (unsigned_abs (v *ℤ w)) billion)
    by false = refl

far : (n : ℕ) → 2 ^ 127 ≤ n → 10 ^ 24 < nearest n billion
far n large = omega arith

-- it is above all values
pub product_far : (v w : ℤ) → 2 ^ 127 ≤ unsigned_abs (v *ℤ w) → 10 ^ 24 < unsigned_abs (product v w)
product_far v w large = let f = far (unsigned_abs (v *ℤ w)) large in omega (arith, product_size v w)

rounded_sign : (v w : ℤ) → 0 < nearest (unsigned_abs (v *ℤ w)) billion → int_lt (product v w) (pos 0) ≡ int_lt (v *ℤ w) (pos 0)
rounded_sign v w some = by (int_lt (v *ℤ w) (pos 0))
  where
    by : (b : Bool) → int_lt (if b then neg_ℤ (pos (nearest (unsigned_abs (v *ℤ w)) billion)) else pos (nearest (unsigned_abs (v *ℤ w)) billion)) (pos 0) ≡ b
    by true = lt-neg (nearest (unsigned_abs (v *ℤ w)) billion) some
    by false = not_below (nearest (unsigned_abs (v *ℤ w)) billion)

-- whether just one of the two is below 0
abbrev pub differ : ℤ → ℤ → Bool
differ v w = not (beq (int_lt v (pos 0)) (int_lt w (pos 0)))

exact_sign : (v w : ℤ) → 0 < unsigned_abs v * unsigned_abs w → int_lt (v *ℤ w) (pos 0) ≡ differ v w
exact_sign (pos a) (pos b) some = ap (λ z. int_lt z (pos 0)) (pos-*ℤ-pos a b) ∙ not_below (a * b) ∙ sym (ap₂ (λ x y. not (beq x y)) (not_below a) (not_below b))
exact_sign (pos a) (negsuc b) some = ap (λ z. int_lt z (pos 0)) (pos-*ℤ-negsuc a b) ∙ lt-neg (a * suc b) some ∙ sym (ap (λ x. not (beq x true)) (not_below a))
exact_sign (negsuc a) (pos b) some = ap (λ z. int_lt z (pos 0)) (negsuc-*ℤ-pos a b) ∙ lt-neg (suc a * b) some ∙ sym (ap (λ y. not (beq true y)) (not_below b))
exact_sign (negsuc a) (negsuc b) some = ap (λ z. int_lt z (pos 0)) (negsuc-*ℤ-negsuc a b) ∙ not_below (suc a * suc b)

-- it is below 0 where just one factor is
pub product_sign : (v w : ℤ) → 2 ^ 127 ≤ unsigned_abs (v *ℤ w) → int_lt (product v w) (pos 0) ≡ differ v w
product_sign v w large =
    let f = far (unsigned_abs (v *ℤ w)) large in
    rounded_sign v w (omega arith) ∙ exact_sign v w (omega (arith, unsigned_abs-mul v w))

-- no life is multiplied to one
pub life_near : (range : Range) (v w : ℤ) → range ≡ Lifetime → IsInRange range v → IsWithinLimit w → unsigned_abs (v *ℤ w) < 2 ^ 127
life_near range v w life within small =
    let is : IsInRange Lifetime v = subst (λ r. IsInRange r v) life within in
    let n : ℕ = is.0 in
    let at : v ≡ whole n = is.1 in
    let high : n ≤ 200 = is.3 in
    let size : unsigned_abs v ≡ n * billion = ap unsigned_abs at in
    let few : unsigned_abs v ≤ 200000000000 = omega (arith, size, high) in
    let a : unsigned_abs v * unsigned_abs w ≤ 200000000000 * unsigned_abs w = grind arith in
    omega (arith, unsigned_abs-mul v w)
