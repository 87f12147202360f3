-- A plan of the least cost costs at most the limit.
use Rattle.span_finder.proofs.Common.{◌≡◌, ℕ, ℤ, pos, ◌+ℤ◌, ◌*ℤ◌, true, List, sym, ap, ◌∙◌, subst, arith, ◌<ℤ◌, ◌≤ℤ◌, Result, Ok, Err, IfOk, is_ok, unsigned_abs, ints, product_formed, sum_formed, all_fit, Rational, lowest, plus, value_of, Frac, *ℤ_nonnegative, *ℤ_pos, ≤ℤ_cancel, *ℤ_comm, products, ring, Row, Var, IsOver, IsOver-multiplied, IsOver-own, IsOver-plus, IsOver-ratio, IsOver-times, cost_of, model_cost, absolute, IsPlan, Values, slack_formed, slack_limit, slack_of, HasNearBest}
use Rattle.exact_num.specs.declared.range.TooWide.{TooWide}
use Rattle.span_finder.proofs.LimitSteps.{fits-first}

-- c over q is at most the limit, which is t times c and q times w, over t times q
at-most : (c lb lt t q w : ℤ) → pos 0 <ℤ t → pos 0 ≤ℤ q → pos 0 ≤ℤ w → pos 0 <ℤ lb → ((t *ℤ c) +ℤ (q *ℤ w)) *ℤ lb ≡ lt *ℤ (t *ℤ q) → (c *ℤ lb) ≤ℤ (lt *ℤ q)
at-most c lb lt t q w ht hq hw hl same =
    let more : pos 0 ≤ℤ ((q *ℤ w) *ℤ lb) = *ℤ_nonnegative (q *ℤ w) lb (*ℤ_nonnegative q w hq hw) (omega (arith, ints)) in
    let parts : ((t *ℤ c) +ℤ (q *ℤ w)) *ℤ lb ≡ ((c *ℤ lb) *ℤ t) +ℤ ((q *ℤ w) *ℤ lb) = split t c (q *ℤ w) lb in
    let ends : lt *ℤ (t *ℤ q) ≡ (lt *ℤ q) *ℤ t = turned lt t q in
    ≤ℤ_cancel (c *ℤ lb) (lt *ℤ q) t ht (omega (arith, ints, more, parts, ends, same))
  where
    split : (t c b lb : ℤ) → ((t *ℤ c) +ℤ b) *ℤ lb ≡ ((c *ℤ lb) *ℤ t) +ℤ (b *ℤ lb)
    split t c b lb = simp ring

    turned : (lt t q : ℤ) → lt *ℤ (t *ℤ q) ≡ (lt *ℤ q) *ℤ t
    turned lt t q = simp products

near-from_plan : (rows : List Row) (vars : List Var) (plan : Values) (cost : Rational) (ppm : ℕ) → pos 0 <ℤ cost.bottom → IsPlan rows vars plan cost → HasNearBest rows vars (slack_limit cost ppm)
near-from_plan rows vars plan cost ppm positive is =
    let some = is.some in
    let q : ℤ = pos some.over in
    let c : ℤ = cost_of model_cost vars some.number in
    let t : ℤ = pos 1000000 *ℤ cost.bottom in
    let w : ℤ = pos ppm *ℤ pos (unsigned_abs cost.top) in
    let t-positive : pos 0 <ℤ t = *ℤ_pos (pos 1000000) cost.bottom (omega (arith, ints)) positive in
    let over_slack : IsOver t (slack_of cost ppm) w = IsOver-times (pos 1000000) cost.bottom (lowest (pos ppm) (pos 1000000)) (absolute cost) (pos ppm) (pos (unsigned_abs cost.top)) (IsOver-ratio (pos ppm) (pos 1000000) (omega (arith, ints))) (IsOver-own (absolute cost) positive) in
    let over_cost : IsOver (t *ℤ q) cost (t *ℤ c) = IsOver-multiplied t q cost c (is.costs some.over some.number (some.positive, some.each)) in
    let over_more : IsOver (t *ℤ q) (slack_of cost ppm) (q *ℤ w) = subst (λ s. IsOver s (slack_of cost ppm) (q *ℤ w)) (*ℤ_comm q t) (IsOver-multiplied q t (slack_of cost ppm) w over_slack) in
    let both = IsOver-plus (t *ℤ q) cost (slack_of cost ppm) (t *ℤ c) (q *ℤ w) over_cost over_more in
    let least : pos 0 ≤ℤ w = *ℤ_nonnegative (pos ppm) (pos (unsigned_abs cost.top)) (omega (arith, ints)) (omega (arith, ints)) in
    record {
      over = some.over;
      plan = some.number;
      near = record {
        meets = is.meets some.over some.number (some.positive, some.each);
        costs = at-most c (slack_limit cost ppm).bottom (slack_limit cost ppm).top t q w t-positive (omega (arith, ints)) least both.positive both.cross;
      };
    }

-- ---- the steps

module _ (cost more : Frac) (ppm : ℕ) (is : value_of more ≡ slack_of (value_of cost) ppm) (answer : Result Frac TooWide) where
  abbrev c : Rational
  c = value_of cost

  pub limit-refused : all_fit (product_formed (lowest (pos ppm) (pos 1000000)) (absolute c)) ≡ true → is_ok answer ≡ all_fit (sum_formed c (value_of more)) → is_ok answer ≡ all_fit (slack_formed c ppm)
  limit-refused fit sums = sums ∙ ap (λ (r : Rational). all_fit (sum_formed c r)) is ∙ sym (fits-first (product_formed (lowest (pos ppm) (pos 1000000)) (absolute c)) (sum_formed c (slack_of c ppm)) fit)

  pub limit-value : IfOk answer (λ limit. value_of limit ≡ plus c (value_of more)) → IfOk answer (λ limit. value_of limit ≡ slack_limit c ppm)
  limit-value h = subst (λ (r : Rational). IfOk answer (λ limit. value_of limit ≡ plus c r)) is h

pub limit-near : (cost : Frac) (ppm : ℕ) (answer : Result Frac TooWide) → IfOk answer (λ limit. value_of limit ≡ slack_limit (value_of cost) ppm) → (rows : List Row) (vars : List Var) (plan : Values) → IsPlan rows vars plan (value_of cost)
    → IfOk answer (λ limit. HasNearBest rows vars (value_of limit))
limit-near cost ppm (Ok limit) e rows vars plan is = subst (HasNearBest rows vars) (sym e) (near-from_plan rows vars plan (value_of cost) ppm cost.positive is)
limit-near cost ppm (Err wide) e rows vars plan is = tt
