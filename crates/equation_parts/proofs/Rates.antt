-- A value from 0 to 1 as a number of billionths: the numerator of its fraction times what the denominator lacks to a billion.
use Rattle.equation_parts.proofs.Common.{◌≡◌, ℕ, ◌*◌, ◌/◌, ◌<◌, ◌≤◌, ℤ, pos, Option, Some, None, ap, ap₂, sym, subst, ◌∙◌, to_z, of_z, arith, w128, ints, mul-div_cancel_left, InRange, lowest, pair, back_in_range, lowest-bottom, lowest-top, IsValueIn, IsInRange, billion}
use Rattle.std.specs.Int.Signed.{quot_z}
use Rattle.std.specs.Prelude.{IsSomeAnd, ◌≤ℤ◌, ◌<ℤ◌, ◌*ℤ◌, unsigned_abs, unwrap_or}
use Rattle.exact_num.specs.Gcd.{gcd_of}
use Rattle.exact_num.proofs.GcdLaws.{gcd_of-le_right}
use Rattle.model_sets.specs.declared.params.Range.{Range}
use Rattle.model_sets.specs.declared.params.Range.TheVariants.{ZeroToOne}

-- the number of billionths, had by multiplying the numerator
pub record IsRate (z num den : ℤ) : Type 0 where
  pub scale : ℕ
  pub quotient : quot_z (pos billion) den ≡ pos scale
  pub few : scale ≤ billion
  pub product : num *ℤ pos scale ≡ z
  pub least : pos 0 ≤ℤ z
  pub most : z ≤ℤ pos billion

divided_back : (b g : ℕ) → 0 < b → b * g ≡ billion → billion / b ≡ g
divided_back b g positive whole = ap (λ n. n / b) (sym whole) ∙ mul-div_cancel_left g positive

rate_is : (z num den : ℤ) → pair num den ≡ lowest z (pos billion) → pos 0 <ℤ den → IsInRange ZeroToOne z → IsRate z num den
rate_is z num den e positive range =
    let g : ℕ = gcd_of (unsigned_abs z) billion in
    let b : ℕ = unsigned_abs den in
    let den_is : den ≡ pos b = omega (arith, ints, positive) in
    let whole : den *ℤ pos g ≡ pos billion = ap (λ x. x.bottom *ℤ pos g) e ∙ lowest-bottom z (pos billion) in
    let parts : pos (b * g) ≡ pos billion = ap (λ d. d *ℤ pos g) (sym den_is) ∙ whole in
    let product : b * g ≡ billion = ap unsigned_abs parts in
    let above : 0 < b = omega (arith, ints, positive, den_is) in
    record {
      scale = g;
      quotient = ap (quot_z (pos billion)) den_is ∙ ap (λ n. pos n) (divided_back b g above product);
      few = gcd_of-le_right (unsigned_abs z) billion (omega arith);
      product = ap (λ x. x.top *ℤ pos g) e ∙ lowest-top z (pos billion);
      least = range.0;
      most = range.1;
    }

-- the same of a value that data give
pub rate-of_given : (given : Option ℤ) (num den : ℤ) (range : Range) → pair num den ≡ lowest (unwrap_or given (pos 0)) (pos billion) → pos 0 <ℤ den → range ≡ ZeroToOne
    → IsSomeAnd given (IsValueIn range) → IsRate (unwrap_or given (pos 0)) num den
rate-of_given None num den range e positive is h = absurd h
rate-of_given (Some z) num den range e positive is h = rate_is z num den e positive (subst (λ r. IsInRange r z) is h.within)

-- ---- read back from their bits

in_range : (z : ℤ) → pos 0 ≤ℤ z → z ≤ℤ pos billion → InRange z
in_range z least most = omega (arith, ints, least, most)

pub rate-fits : (z num den : ℤ) → IsRate z num den → InRange z
rate-fits z num den rate = in_range z rate.least rate.most

pub rate-back : (z num den : ℤ) → IsRate z num den → to_z w128 (of_z w128 z) ≡ z
rate-back z num den rate = back_in_range z (in_range z rate.least rate.most)

pub rate-computed : (z num den : ℤ) → InRange num → InRange den → IsRate z num den
    → to_z w128 (of_z w128 num) *ℤ to_z w128 (of_z w128 (quot_z (pos billion) (to_z w128 (of_z w128 den)))) ≡ z
rate-computed z num den num_fits den_fits rate =
    ap₂ (λ a b. a *ℤ b) (back_in_range num num_fits)
    (ap (λ e. to_z w128 (of_z w128 (quot_z (pos billion) e))) (back_in_range den den_fits)
    ∙ ap (λ q. to_z w128 (of_z w128 q)) rate.quotient
    ∙ back_in_range (pos rate.scale) (let few : rate.scale ≤ billion = rate.few in omega (arith, few)))
    ∙ rate.product
