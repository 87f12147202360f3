-- What plans, bounds, refutations and directions are worth: the checker said yes, and what that means of all plans.
use Rattle.std.specs.Prelude.{◌≡◌, ℕ, ℤ, pos, List, [], ◌∷◌}
use Rattle.exact_num.specs.Rational.{Rational}
use Rattle.row_core.specs.declared.Row.{Row}
use Rattle.row_core.specs.declared.RowName.{RowName}
use Rattle.row_core.specs.declared.Var.{Var}
use Rattle.row_core.specs.Order.{row_name_cmp, var_cmp}
use Rattle.row_core.specs.Plans.{value_in}
use Rattle.row_core.specs.Values.{IsOver}
use Rattle.certificate_checker.specs.Certificates.{AdmitsNone, AreMultipliersOver, BoundsAll, CostsLess, Descends, Proves, Refutes, bound_of}
use Rattle.certificate_checker.specs.Conditions.{AllPass}
use Rattle.certificate_checker.specs.Costs.{cost_of, cost_value, model_cost}
use Rattle.certificate_checker.specs.Denominators.{AreOverSome}
use Rattle.certificate_checker.specs.Gaps.{Within, gap_condition}
use Rattle.certificate_checker.specs.MultiplierChecks.{bound_conditions, bound_value, infeasible_conditions}
use Rattle.certificate_checker.specs.PlanChecks.{direction_conditions, plan_conditions}
use Rattle.certificate_checker.specs.Plans.{AreValuesOver, MeetsAll}

-- what the plan costs the model, and what the multipliers sum up to
abbrev pub plan_cost : List Var → List (Var × Rational) → Rational
plan_cost vars plan = cost_value model_cost vars (value_in var_cmp plan)

abbrev pub multiplier_bound : List Row → List (RowName × Rational) → Rational
multiplier_bound rows multipliers = bound_value rows (value_in row_name_cmp multipliers)

-- the checker says yes to the plan: it meets all rows with right signs, over any common denominator, and costs so much
pub record IsPlan (rows : List Row) (vars : List Var) (plan : List (Var × Rational)) (cost : Rational) : Type 0 where
  pub pass : AllPass (plan_conditions model_cost rows vars plan)
  pub some : AreOverSome var_cmp plan
  pub meets : (q : ℕ) (x : Var → ℤ) → AreValuesOver q x plan → MeetsAll rows vars q x
  pub costs : (q : ℕ) (x : Var → ℤ) → AreValuesOver q x plan → IsOver (pos q) cost (cost_of model_cost vars x)
  pub cost_is : cost ≡ plan_cost vars plan

-- it says yes to the multipliers: they prove the bound of the cost with these weights, so that no plan costs less
pub record IsBoundFor (weight : Var → ℤ) (rows : List Row) (vars : List Var) (multipliers : List (RowName × Rational)) (bound : Rational) : Type 0 where
  pub pass : AllPass (bound_conditions weight rows vars multipliers)
  pub some : AreOverSome row_name_cmp multipliers
  pub proves : (s : ℕ) (y : RowName → ℤ) → AreMultipliersOver s y multipliers → Proves weight rows vars s y
  pub sums : (s : ℕ) (y : RowName → ℤ) → AreMultipliersOver s y multipliers → IsOver (pos s) bound (bound_of y rows)
  pub bounds : BoundsAll weight rows vars bound
  pub bound_is : bound ≡ multiplier_bound rows multipliers

abbrev pub IsBound : List Row → List Var → List (RowName × Rational) → Rational → Type 0
IsBound rows vars multipliers bound = IsBoundFor model_cost rows vars multipliers bound

-- it says yes to the gap: the cost is above the bound by at most so many millionths of the bound
pub record IsNear (cost bound : Rational) (ppm : ℕ) : Type 0 where
  pub pass : AllPass (gap_condition cost bound ppm ∷ [])
  pub within : Within cost bound ppm

-- it says yes, and the cost is the bound
pub record IsClosed (cost bound : Rational) : Type 0 where
  pub pass : AllPass (gap_condition cost bound 0 ∷ [])
  pub same : cost ≡ bound
  pub within : (ppm : ℕ) → Within cost bound ppm

-- it says yes to the multipliers: they show that no plan meets all rows with right signs
pub record IsRefutation (rows : List Row) (vars : List Var) (multipliers : List (RowName × Rational)) : Type 0 where
  pub pass : AllPass (infeasible_conditions rows vars multipliers)
  pub some : AreOverSome row_name_cmp multipliers
  pub refutes : (s : ℕ) (y : RowName → ℤ) → AreMultipliersOver s y multipliers → Refutes rows vars s y
  pub none : AdmitsNone rows vars

-- it says yes to the direction: the cost with these weights falls along it, so with a plan there is one that costs less than any whole number
pub record IsDescentFor (weight : Var → ℤ) (rows : List Row) (vars : List Var) (direction : List (Var × Rational)) : Type 0 where
  pub pass : AllPass (direction_conditions weight rows vars direction)
  pub some : AreOverSome var_cmp direction
  pub descends : (q : ℕ) (d : Var → ℤ) → AreValuesOver q d direction → Descends weight rows vars d
  pub endless : (q : ℕ) (x : Var → ℤ) (n : ℤ) → MeetsAll rows vars q x → CostsLess weight rows vars n

-- the model's cost does, and there is a plan
pub record IsDescent (rows : List Row) (vars : List Var) (direction : List (Var × Rational)) : Type 0 where
  pub pass : AllPass (direction_conditions model_cost rows vars direction)
  pub some : AreOverSome var_cmp direction
  pub descends : (q : ℕ) (d : Var → ℤ) → AreValuesOver q d direction → Descends model_cost rows vars d
  pub endless : (n : ℤ) → CostsLess model_cost rows vars n
