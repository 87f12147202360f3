-- A value as a number of billionths: the numerator of its fraction times what the denominator lacks to a billion.
use Rattle.data_warnings.proofs.Common.{◌≡◌, ℕ, ◌*◌, ◌/◌, ◌<◌, ◌≤◌, ℤ, pos, Option, Some, None, ap, ap₂, sym, ◌∙◌, to_z, of_z, arith, w128, ints, mul-div_cancel_left, InRange, back_in_range, IsWithinLimit, IsValueIn}
use Rattle.std.specs.Int.Signed.{quot_z}
use Rattle.std.specs.Prelude.{IsSomeAnd, ◌<ℤ◌, ◌*ℤ◌, unsigned_abs, unwrap_or}
use Rattle.exact_num.specs.Gcd.{gcd_of}
use Rattle.exact_num.specs.Rational.{lowest, pair}
use Rattle.exact_num.proofs.GcdLaws.{gcd_of-le_right}
use Rattle.exact_num.proofs.RationalLaws.{lowest-bottom, lowest-top}
use Rattle.model_sets.specs.declared.params.Range.{Range}
use Rattle.param_tables.specs.Ranges.{billion}

-- the number of billionths, had by multiplying the numerator
pub record IsValue (z num den : ℤ) : Type 0 where
  pub scale : ℕ
  pub quotient : quot_z (pos billion) den ≡ pos scale
  pub few : scale ≤ billion
  pub product : num *ℤ pos scale ≡ z
  pub within : IsWithinLimit z

divided_back : (b g : ℕ) → 0 < b → b * g ≡ billion → billion / b ≡ g
divided_back b g positive whole = ap (λ n. n / b) (sym whole) ∙ mul-div_cancel_left g positive

value_is : (z num den : ℤ) → pair num den ≡ lowest z (pos billion) → pos 0 <ℤ den → IsWithinLimit z → IsValue z num den
value_is z num den e positive within =
    let g : ℕ = gcd_of (unsigned_abs z) billion in
    let b : ℕ = unsigned_abs den in
    let den_is : den ≡ pos b = omega (arith, ints, positive) in
    let whole : den *ℤ pos g ≡ pos billion = ap (λ x. x.bottom *ℤ pos g) e ∙ lowest-bottom z (pos billion) in
    let parts : pos (b * g) ≡ pos billion = ap (λ d. d *ℤ pos g) (sym den_is) ∙ whole in
    let product : b * g ≡ billion = ap unsigned_abs parts in
    let above : 0 < b = omega (arith, ints, positive, den_is) in
    record {
      scale = g;
      quotient = ap (quot_z (pos billion)) den_is ∙ ap (λ n. pos n) (divided_back b g above product);
      few = gcd_of-le_right (unsigned_abs z) billion (omega arith);
      product = ap (λ x. x.top *ℤ pos g) e ∙ lowest-top z (pos billion);
      within = within;
    }

-- the same of a value that data give
pub value-of_given : (given : Option ℤ) (num den : ℤ) (range : Range) → pair num den ≡ lowest (unwrap_or given (pos 0)) (pos billion) → pos 0 <ℤ den
    → IsSomeAnd given (IsValueIn range) → IsValue (unwrap_or given (pos 0)) num den
value-of_given None num den range e positive h = absurd h
value-of_given (Some z) num den range e positive h = value_is z num den e positive h.number

-- ---- read back from their bits

pub in_range : (z : ℤ) → IsWithinLimit z → InRange z
in_range z within = omega (arith, within)

pub value-back : (z num den : ℤ) → IsValue z num den → to_z w128 (of_z w128 z) ≡ z
value-back z num den value = back_in_range z (in_range z value.within)

pub value-computed : (z num den : ℤ) → InRange num → InRange den → IsValue z num den
    → to_z w128 (of_z w128 num) *ℤ to_z w128 (of_z w128 (quot_z (pos billion) (to_z w128 (of_z w128 den)))) ≡ z
value-computed z num den num_fits den_fits value =
    ap₂ (λ a b. a *ℤ b) (back_in_range num num_fits)
    (ap (λ e. to_z w128 (of_z w128 (quot_z (pos billion) e))) (back_in_range den den_fits)
    ∙ ap (λ q. to_z w128 (of_z w128 q)) value.quotient
    ∙ back_in_range (pos value.scale) (let few : value.scale ≤ billion = value.few in omega (arith, few)))
    ∙ value.product
