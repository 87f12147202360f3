-- The costs and bounds of two optima of one model are one number, so the plan of one has no gap to the bound of the other.
use Rattle.osemosys_run.proofs.Common.{◌≡◌, ℕ, ℤ, pos, ◌<ℤ◌, ◌<◌, Bool, true, false, List, [], ◌∷◌, refl, sym, ap, ◌∙◌, subst, arith, ints, Rational, Data, Row, RowName, Var, row_name_cmp, var_cmp, value_in, all_variables, model_cost, cost_entries, AreFeasible, BoundsFeasible, all_fit}
use Rattle.std.specs.Prelude.{◌*ℤ◌, ◌+ℤ◌, ◌-ℤ◌, ◌≤ℤ◌, unsigned_abs, int_lt}
use Rattle.exact_num.specs.Formed.{difference_formed}
use Rattle.exact_num.specs.Rational.{IsLowest, minus, plus, times, whole}
use Rattle.exact_num.proofs.Integers.{*ℤ-≤ℤ, *ℤ_nonnegative, *ℤ_pos, nonzero_of_pos, ≤ℤ_cancel}
use Rattle.exact_num.proofs.RationalLaws.{lowest-IsLowest, lowest_unique, whole-IsLowest}
use Rattle.exact_num.proofs.Ring.{products, zero-*ℤ}
use Rattle.row_core.specs.Evaluated.{sum_from}
use Rattle.row_core.specs.Values.{IsOver}
use Rattle.row_core.proofs.SumLaws.{IsOver-ratio}
use Rattle.certificate_checker.specs.Gaps.{Within, gap_condition}
use Rattle.certificate_checker.specs.Conditions.{AllPass}
use Rattle.certificate_checker.specs.MultiplierChecks.{right_sides}
use Rattle.certificate_checker.proofs.GapLaws.{gap_passes_below, gap_wide_at_once}
use Rattle.certificate_checker.proofs.OverLaws.{over_nonpositive}
use Rattle.certified_answers.specs.Worth.{IsNear}
use Rattle.command_answers.specs.SolvedPlans.{IsNearOptimum}

-- ---- the order of fractions whose denominators are above 0

abbrev AtMost : Rational → Rational → Type 0
AtMost x y = (x.top *ℤ y.bottom) ≤ℤ (y.top *ℤ x.bottom)

turned : (a b c : ℤ) → (a *ℤ b) *ℤ c ≡ (a *ℤ c) *ℤ b
turned a b c = simp products

from-positive : (z : ℤ) → pos 0 <ℤ z → pos 0 ≤ℤ z
from-positive z h = omega (arith, ints)

in-turn : (a b c d e f : ℤ) → a ≡ b → b ≤ℤ c → c ≡ d → d ≤ℤ e → e ≡ f → a ≤ℤ f
in-turn a b c d e f ab bc cd de ef = omega (arith, ints)

at-most-through : (x y z : Rational) → pos 0 <ℤ x.bottom → pos 0 <ℤ y.bottom → pos 0 <ℤ z.bottom → AtMost x y → AtMost y z → AtMost x z
at-most-through x y z hx hy hz first second =
    ≤ℤ_cancel (x.top *ℤ z.bottom) (z.top *ℤ x.bottom) y.bottom hy
    (in-turn ((x.top *ℤ z.bottom) *ℤ y.bottom) ((x.top *ℤ y.bottom) *ℤ z.bottom) ((y.top *ℤ x.bottom) *ℤ z.bottom) ((y.top *ℤ z.bottom) *ℤ x.bottom) ((z.top *ℤ y.bottom) *ℤ x.bottom) ((z.top *ℤ x.bottom) *ℤ y.bottom)
    (turned x.top z.bottom y.bottom)
    (*ℤ-≤ℤ (x.top *ℤ y.bottom) (y.top *ℤ x.bottom) z.bottom (from-positive z.bottom hz) first)
    (turned y.top x.bottom z.bottom)
    (*ℤ-≤ℤ (y.top *ℤ z.bottom) (z.top *ℤ y.bottom) x.bottom (from-positive x.bottom hx) second)
    (turned z.top y.bottom x.bottom))

two-sides : (a b : ℤ) → a ≤ℤ b → b ≤ℤ a → a ≡ b
two-sides a b first second = omega (arith, ints)

same-number : (x y : Rational) → IsLowest x → IsLowest y → AtMost x y → AtMost y x → x ≡ y
same-number x y hx hy first second = lowest_unique x y hx hy (two-sides (x.top *ℤ y.bottom) (y.top *ℤ x.bottom) first second)

-- ---- sums are in lowest terms

plus-lowest : (x y : Rational) → pos 0 <ℤ x.bottom → pos 0 <ℤ y.bottom → IsLowest (plus x y)
unfolding plus
plus-lowest x y hx hy = lowest-IsLowest (x.top *ℤ y.bottom +ℤ y.top *ℤ x.bottom) (x.bottom *ℤ y.bottom) (nonzero_of_pos (x.bottom *ℤ y.bottom) (*ℤ_pos x.bottom y.bottom hx hy))

times-positive : (x y : Rational) → pos 0 <ℤ x.bottom → pos 0 <ℤ y.bottom → pos 0 <ℤ (times x y).bottom
unfolding times
times-positive x y hx hy = (lowest-IsLowest (x.top *ℤ y.top) (x.bottom *ℤ y.bottom) (nonzero_of_pos (x.bottom *ℤ y.bottom) (*ℤ_pos x.bottom y.bottom hx hy))).positive

sum-lowest : {K : Type 0} (value : K → Rational) (sum : Rational) (es : List (K × ℤ)) → ((k : K) → pos 0 <ℤ (value k).bottom) → IsLowest sum → IsLowest (sum_from value sum es)
sum-lowest value sum [] positive low = low
sum-lowest value sum (e ∷ es) positive low =
    sum-lowest value (plus sum (times (whole e.1) (value e.0))) es positive
    (plus-lowest sum (times (whole e.1) (value e.0)) low.positive (times-positive (whole e.1) (value e.0) (whole-IsLowest e.1).positive (positive e.0)))

-- ---- costs and bounds

-- a bound of every plan is at most what one costs
below-cost : (q : ℕ) (c : ℤ) (cost bound : Rational) → 0 < q → IsOver (pos q) cost c → (bound.top *ℤ pos q) ≤ℤ (c *ℤ bound.bottom) → AtMost bound cost
below-cost q c cost bound hq over least =
    ≤ℤ_cancel (bound.top *ℤ cost.bottom) (cost.top *ℤ bound.bottom) (pos q) (omega (arith, ints, hq))
    (in-turn ((bound.top *ℤ cost.bottom) *ℤ pos q) ((bound.top *ℤ pos q) *ℤ cost.bottom) ((c *ℤ bound.bottom) *ℤ cost.bottom) ((c *ℤ cost.bottom) *ℤ bound.bottom) ((cost.top *ℤ pos q) *ℤ bound.bottom) ((cost.top *ℤ bound.bottom) *ℤ pos q)
    (turned bound.top cost.bottom (pos q))
    (*ℤ-≤ℤ (bound.top *ℤ pos q) (c *ℤ bound.bottom) cost.bottom (from-positive cost.bottom over.positive) least)
    (turned c bound.bottom cost.bottom)
    (equal-at-most ((c *ℤ cost.bottom) *ℤ bound.bottom) ((cost.top *ℤ pos q) *ℤ bound.bottom) (ap (λ z. z *ℤ bound.bottom) over.cross))
    (turned cost.top (pos q) bound.bottom))
  where
    equal-at-most : (a b : ℤ) → a ≡ b → a ≤ℤ b
    equal-at-most a b h = omega (arith, ints)

-- with no gap a cost is at most its bound
no-gap : (a b right : ℤ) → right ≡ pos 0 → ((a -ℤ b) *ℤ pos 1000000) ≤ℤ right → a ≤ℤ b
no-gap a b right none within = omega (arith, ints)

within-none : (cost bound : Rational) → Within cost bound 0 → AtMost cost bound
within-none cost bound within =
    no-gap (cost.top *ℤ bound.bottom) (bound.top *ℤ cost.bottom) ((pos 0 *ℤ pos (unsigned_abs bound.top)) *ℤ cost.bottom)
    (ap (λ z. z *ℤ cost.bottom) (zero-*ℤ (pos (unsigned_abs bound.top))) ∙ zero-*ℤ cost.bottom) within

-- ---- a cost beside itself

nothing-apart : (z : ℤ) → (z -ℤ z) ≤ℤ pos 0
nothing-apart z = omega (arith, ints)

own-difference : (c : Rational) → pos 0 <ℤ c.bottom → (minus c c).top ≤ℤ pos 0
unfolding minus
own-difference c positive =
    let square : pos 0 <ℤ (c.bottom *ℤ c.bottom) = *ℤ_pos c.bottom c.bottom positive positive in
    (over_nonpositive (c.bottom *ℤ c.bottom) (minus c c) ((c.top *ℤ c.bottom) -ℤ (c.top *ℤ c.bottom)) square (IsOver-ratio ((c.top *ℤ c.bottom) -ℤ (c.top *ℤ c.bottom)) (c.bottom *ℤ c.bottom) square)).1
    (nothing-apart (c.top *ℤ c.bottom))

not-above : (z : ℤ) → z ≤ℤ pos 0 → int_lt (pos 0) z ≡ false
not-above z h = grind (arith, ints)

difference-fits : (cost bound : Rational) → AllPass (gap_condition cost bound 0 ∷ []) → all_fit (difference_formed cost bound) ≡ true
difference-fits cost bound pass = by (all_fit (difference_formed cost bound)) refl
  where
    by : (b : Bool) → all_fit (difference_formed cost bound) ≡ b → b ≡ true
    by true is = refl
    by false is = absurd (cc (sym pass.fit ∙ gap_wide_at_once cost bound 0 is))

own-within : (z right : ℤ) → pos 0 ≤ℤ right → ((z -ℤ z) *ℤ pos 1000000) ≤ℤ right
own-within z right h = omega (arith, ints)

own-near : (c : Rational) (gap : ℕ) → pos 0 <ℤ c.bottom → all_fit (difference_formed c c) ≡ true → IsNear c c gap
own-near c gap positive fits =
    let below : (minus c c).top ≤ℤ pos 0 = own-difference c positive in
    record {
      pass = gap_passes_below c c gap positive positive fits below (not-above (minus c c).top below);
      within = own-within (c.top *ℤ c.bottom) ((pos gap *ℤ pos (unsigned_abs c.top)) *ℤ c.bottom)
          (*ℤ_nonnegative (pos gap *ℤ pos (unsigned_abs c.top)) c.bottom (*ℤ_nonnegative (pos gap) (pos (unsigned_abs c.top)) (natural gap) (natural (unsigned_abs c.top))) (from-positive c.bottom positive));
    }
  where
    natural : (n : ℕ) → pos 0 ≤ℤ pos n
    natural n = omega (arith, ints)

-- ---- two optima

module _ (places : ℕ) (d : Data) where
  abbrev IsBest : List Row → List (Var × Rational) → List (RowName × Rational) → Rational → Rational → Type 0
  IsBest rows plan multipliers cost bound = IsNearOptimum places d rows 0 plan multipliers cost bound

  cost-lowest : (rows : List Row) (plan : List (Var × Rational)) (multipliers : List (RowName × Rational)) (cost bound : Rational) → IsBest rows plan multipliers cost bound → IsLowest cost
  cost-lowest rows plan multipliers cost bound best =
      subst IsLowest (sym best.checked.cost_is)
      (sum-lowest (value_in var_cmp plan) (whole (pos 0)) (cost_entries model_cost (all_variables d)) (λ v. (best.feasible.some.each v).positive) (whole-IsLowest (pos 0)))

  bound-lowest : (rows : List Row) (plan : List (Var × Rational)) (multipliers : List (RowName × Rational)) (cost bound : Rational) → IsBest rows plan multipliers cost bound → IsLowest bound
  bound-lowest rows plan multipliers cost bound best =
      subst IsLowest (sym best.proved.bound_is)
      (sum-lowest (value_in row_name_cmp multipliers) (whole (pos 0)) (right_sides rows) (λ name. (best.proved.some.each name).positive) (whole-IsLowest (pos 0)))

  below : (plan : List (Var × Rational)) (cost bound : Rational) → AreFeasible places d plan cost → BoundsFeasible places d bound → AtMost bound cost
  below plan cost bound are bounds =
      below-cost are.some.over _ cost bound are.some.positive (are.costs are.some.over are.some.number (are.some.positive, are.some.each))
      (bounds are.some.over are.some.number (are.feasible are.some.over are.some.number (are.some.positive, are.some.each)))

  -- the cost of one is the bound of the other
  meets : (rows others : List Row) (plan plan2 : List (Var × Rational)) (multipliers multipliers2 : List (RowName × Rational)) (cost bound cost2 bound2 : Rational)
      → IsBest rows plan multipliers cost bound → IsBest others plan2 multipliers2 cost2 bound2 → cost ≡ bound2
  meets rows others plan plan2 multipliers multipliers2 cost bound cost2 bound2 one two =
      let c : IsLowest cost = cost-lowest rows plan multipliers cost bound one in
      let b : IsLowest bound = bound-lowest rows plan multipliers cost bound one in
      let c2 : IsLowest cost2 = cost-lowest others plan2 multipliers2 cost2 bound2 two in
      let b2 : IsLowest bound2 = bound-lowest others plan2 multipliers2 cost2 bound2 two in
      same-number cost bound2 c b2
      (at-most-through cost bound bound2 c.positive b.positive b2.positive (within-none cost bound one.gap_kept.within)
      (at-most-through bound cost2 bound2 b.positive c2.positive b2.positive (below plan2 cost2 bound two.feasible one.bounds) (within-none cost2 bound2 two.gap_kept.within)))
      (below plan cost bound2 one.feasible two.bounds)

  pub near-other : (gap : ℕ) (rows others : List Row) (plan plan2 : List (Var × Rational)) (multipliers multipliers2 : List (RowName × Rational)) (cost bound cost2 bound2 : Rational)
      → IsNearOptimum places d rows 0 plan multipliers cost bound → IsNearOptimum places d others 0 plan2 multipliers2 cost2 bound2 → IsNear cost bound2 gap
  near-other gap rows others plan plan2 multipliers multipliers2 cost bound cost2 bound2 one two =
      let own : cost ≡ bound = meets rows rows plan plan multipliers multipliers cost bound cost bound one one in
      let fits : all_fit (difference_formed cost cost) ≡ true = subst (λ (b : Rational). all_fit (difference_formed cost b) ≡ true) (sym own) (difference-fits cost bound one.gap_kept.pass) in
      subst (λ (b : Rational). IsNear cost b gap) (meets rows others plan plan2 multipliers multipliers2 cost bound cost2 bound2 one two)
      (own-near cost gap (cost-lowest rows plan multipliers cost bound one).positive fits)
