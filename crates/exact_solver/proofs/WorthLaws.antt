-- What the checks say of a plan, multipliers and a direction is what an answer is worth at the problem's cost.
use Rattle.row_problem.proofs.Common.{◌≡◌, ℤ, pos, neg_ℤ, ◌*ℤ◌, List, refl, sym, ap, ◌∙◌, Option, IsLowest, Rational, neg_ℤ-*ℤ, one-*ℤ, Row, Var, var_cmp, value_in, IsOver, Reduced, bound_of, IsDescentAt, IsOptimumFor, sign_of, weight_of, Cost, Model, One, Goal, Least, Greatest, IsFoundOptimumFor, IsFoundPlan, IsBoundFor, IsClosed, IsDescentFor, IsPlan, IsProgramOf, Values, Multipliers}
use Rattle.exact_num.proofs.RationalLaws.{negated-IsLowest}
use Rattle.certified_answers.specs.Answers.{turned}
use Rattle.row_problem.proofs.CostLaws.{aimed-column, cost-is}
use Rattle.exact_solver.proofs.Closed.{same-value}

-- ---- the value of one variable

turned-lowest : (goal : Goal) (value : Rational) → IsLowest value → IsLowest (turned goal value)
turned-lowest Least value h = h
turned-lowest Greatest value h = negated-IsLowest value h

turned-over : (goal : Goal) (q : ℤ) (value : Rational) (z : ℤ) → IsOver q value z → IsOver q (turned goal value) (sign_of goal *ℤ z)
turned-over Least q value z over = record { positive = over.positive; cross = ap (λ t. t *ℤ value.bottom) (one-*ℤ z) ∙ over.cross }
turned-over Greatest q value z over = record {
  positive = over.positive;
  cross = ap (λ t. t *ℤ value.bottom) (neg_ℤ-*ℤ (pos 1) z ∙ ap neg_ℤ (one-*ℤ z)) ∙ neg_ℤ-*ℤ z value.bottom ∙ ap neg_ℤ over.cross ∙ sym (neg_ℤ-*ℤ value.top q);
}

module _ (rows : List Row) (defs : List (Option Var)) (vars : List Var) (reduced : Reduced) (plan : Values) (multipliers : Multipliers) (amount bound : Rational) (is_plan : IsPlan rows vars plan amount) (lowest_bound : IsLowest bound) where
  -- the bound is the variable's value
  bound-is : (var : Var) (goal : Goal) → IsProgramOf rows defs vars (One var goal) reduced → IsLowest (value_in var_cmp plan var) → IsBoundFor (weight_of (One var goal)) rows vars multipliers bound
      → IsFoundOptimumFor (weight_of (One var goal)) rows vars plan multipliers → bound ≡ turned goal (value_in var_cmp plan var)
  bound-is var goal program lowest is_bound found =
      let p = found.plan_found in
      let b = found.bound_found in
      let value = value_in var_cmp plan var in
      let column = aimed-column rows defs vars (One var goal) reduced program var goal refl in
      let costs = cost-is vars var (sign_of goal) p.number program.problem.ascending column.0 in
      let same : (sign_of goal *ℤ p.number var) *ℤ pos b.over ≡ bound_of b.number rows *ℤ pos p.over = ap (λ z. z *ℤ pos b.over) (sym costs) ∙ found.closed in
      sym
      (same-value (turned goal value) bound (sign_of goal *ℤ p.number var) (bound_of b.number rows) p.over b.over (turned-lowest goal value lowest) lowest_bound p.are.0 b.are.0
      (turned-over goal (pos p.over) value (p.number var) (p.are.1 var)) (is_bound.sums b.over b.number b.are) same)

  pub optimum-is : (cost : Cost) → IsProgramOf rows defs vars cost reduced → ((v : Var) → IsLowest (value_in var_cmp plan v)) → IsBoundFor (weight_of cost) rows vars multipliers bound → IsFoundOptimumFor (weight_of cost) rows vars plan multipliers
      → (cost ≡ Model → IsClosed amount bound) → IsOptimumFor cost rows vars plan multipliers amount bound
  optimum-is Model program lowest is_bound found closed = (is_plan, is_bound, closed refl)
  optimum-is (One var goal) program lowest is_bound found closed = (is_plan, is_bound, bound-is var goal program (lowest var) is_bound found)

-- at the model's cost nothing lies between the cost and the bound
pub costs-bound : (cost : Cost) (rows : List Row) (vars : List Var) (plan : Values) (multipliers : Multipliers) (amount bound : Rational) → IsLowest amount → IsLowest bound → IsPlan rows vars plan amount → IsBoundFor (weight_of cost) rows vars multipliers bound
    → IsFoundOptimumFor (weight_of cost) rows vars plan multipliers → cost ≡ Model → amount ≡ bound
costs-bound Model rows vars plan multipliers amount bound lowest_amount lowest_bound is_plan is_bound found e =
    let p = found.plan_found in
    let b = found.bound_found in
    same-value amount bound _ _ p.over b.over lowest_amount lowest_bound p.are.0 b.are.0 (is_plan.costs p.over p.number p.are) (is_bound.sums b.over b.number b.are) found.closed
costs-bound (One var goal) rows vars plan multipliers amount bound lowest_amount lowest_bound is_plan is_bound found e = absurd (cc e)

-- a direction
pub descent-at : (cost : Cost) (rows : List Row) (vars : List Var) (plan direction : Values) → IsFoundPlan rows vars plan → IsDescentFor (weight_of cost) rows vars direction → IsDescentAt cost rows vars direction
descent-at Model rows vars plan direction found is = record { pass = is.pass; some = is.some; descends = is.descends; endless = λ n. is.endless found.over found.number n found.meets }
descent-at (One var goal) rows vars plan direction found is = is
