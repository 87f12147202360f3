-- What was found, in whole numbers over some common denominators: what makes the checker say yes to it, where every number fits.
use Rattle.std.specs.Prelude.{◌≡◌, ℕ, ℤ, pos, ◌*ℤ◌, List}
use Rattle.exact_num.specs.Rational.{Rational}
use Rattle.row_core.specs.declared.Row.{Row}
use Rattle.row_core.specs.declared.RowName.{RowName}
use Rattle.row_core.specs.declared.Var.{Var}
use Rattle.certificate_checker.specs.Certificates.{AreMultipliersOver, Descends, Proves, Refutes, bound_of}
use Rattle.certificate_checker.specs.Costs.{cost_of}
use Rattle.certificate_checker.specs.Plans.{AreValuesOver, MeetsAll}

-- a plan that meets all rows with right signs
pub record IsFoundPlan (rows : List Row) (vars : List Var) (plan : List (Var × Rational)) : Type 0 where
  pub over : ℕ
  pub number : Var → ℤ
  pub are : AreValuesOver over number plan
  pub meets : MeetsAll rows vars over number

-- multipliers that prove a bound of the cost with these weights
pub record IsFoundBoundFor (weight : Var → ℤ) (rows : List Row) (vars : List Var) (multipliers : List (RowName × Rational)) : Type 0 where
  pub over : ℕ
  pub number : RowName → ℤ
  pub are : AreMultipliersOver over number multipliers
  pub proves : Proves weight rows vars over number

-- both, and the cost of the plan is the bound of the multipliers
pub record IsFoundOptimumFor (weight : Var → ℤ) (rows : List Row) (vars : List Var) (plan : List (Var × Rational)) (multipliers : List (RowName × Rational)) : Type 0 where
  pub plan_found : IsFoundPlan rows vars plan
  pub bound_found : IsFoundBoundFor weight rows vars multipliers
  pub closed : cost_of weight vars plan_found.number *ℤ pos bound_found.over ≡ bound_of bound_found.number rows *ℤ pos plan_found.over

-- multipliers that show that no plan meets all rows
pub record IsFoundRefutation (rows : List Row) (vars : List Var) (multipliers : List (RowName × Rational)) : Type 0 where
  pub over : ℕ
  pub number : RowName → ℤ
  pub are : AreMultipliersOver over number multipliers
  pub refutes : Refutes rows vars over number

-- a direction along which the cost with these weights falls
pub record IsFoundDescentFor (weight : Var → ℤ) (rows : List Row) (vars : List Var) (direction : List (Var × Rational)) : Type 0 where
  pub over : ℕ
  pub number : Var → ℤ
  pub are : AreValuesOver over number direction
  pub descends : Descends weight rows vars number
