-- What the ends of `solve` say of the plans of the named equations, and what proves it.
use Rattle.std.specs.Prelude.{◌≡◌, ℕ, ℤ, pos, ◌*ℤ◌, ◌<ℤ◌, List}
use Rattle.exact_num.specs.Rational.{Rational}
use Rattle.model_sets.specs.Data.{Data}
use Rattle.row_core.specs.declared.Row.{Row}
use Rattle.row_core.specs.declared.RowName.{RowName}
use Rattle.row_core.specs.declared.Var.{Var}
use Rattle.row_core.specs.Numbers.{keys_of}
use Rattle.named_equations.specs.Existence.{all_variables}
use Rattle.named_equations.specs.Plans.{Feasible, cost}
use Rattle.certified_answers.specs.Answers.{AreNamedIn}
use Rattle.certified_answers.specs.Worth.{IsBound, IsDescent, IsNear, IsPlan, IsRefutation}
use Rattle.command_answers.specs.CheckedPlans.{AreFeasible, BoundsFeasible, NoneIsFeasible}

-- ---- plans

-- a plan that meets them with right signs costs less than n
pub record IsUndercut (places : ℕ) (d : Data) (n : ℤ) : Type 0 where
  pub over : ℕ
  pub plan : Var → ℤ
  pub feasible : Feasible places d over plan
  pub less : cost d plan <ℤ (n *ℤ pos over)

-- whichever whole number is taken, some plan costs less
abbrev pub HasNoLeastCost : ℕ → Data → Type 0
HasNoLeastCost places d = (n : ℤ) → IsUndercut places d n

-- ---- with what proves it, over the rows

-- The plan has a value for each variable, in order, meets the named equations and costs so much; no plan costs less than the bound, which the
-- multipliers of rows prove and is their sum; and the cost is within the gap of it. The checker says yes to the plan, to the
-- multipliers and to the gap.
pub record IsNearOptimum (places : ℕ) (d : Data) (rows : List Row) (gap : ℕ) (plan : List (Var × Rational)) (multipliers : List (RowName × Rational)) (cost bound : Rational) : Type 0 where
  pub feasible : AreFeasible places d plan cost
  pub whole : keys_of plan ≡ all_variables d
  pub bounds : BoundsFeasible places d bound
  pub checked : IsPlan rows (all_variables d) plan cost
  pub gap_kept : IsNear cost bound gap
  pub proved : IsBound rows (all_variables d) multipliers bound
  pub named : AreNamedIn rows multipliers

-- the same with a cost that is equal to the bound, so that no plan costs less
pub record IsOptimum (places : ℕ) (d : Data) (rows : List Row) (gap : ℕ) (plan : List (Var × Rational)) (multipliers : List (RowName × Rational)) (cost bound : Rational) : Type 0 where
  pub near : IsNearOptimum places d rows gap plan multipliers cost bound
  pub same : cost ≡ bound

-- no plan meets the named equations: the multipliers of rows refute it
pub record IsRefuted (places : ℕ) (d : Data) (rows : List Row) (multipliers : List (RowName × Rational)) : Type 0 where
  pub none : NoneIsFeasible places d
  pub proved : IsRefutation rows (all_variables d) multipliers
  pub named : AreNamedIn rows multipliers

-- The plan has a value for each variable, in order, and meets the named equations; plans of any lower cost do; and the direction, with a number for
-- each variable, descends from each of them. The checker says yes to the plan, and to the direction.
pub record AreUnbounded (places : ℕ) (d : Data) (rows : List Row) (plan direction : List (Var × Rational)) : Type 0 where
  pub cost : Rational
  pub feasible : AreFeasible places d plan cost
  pub checked : IsPlan rows (all_variables d) plan cost
  pub whole : keys_of plan ≡ all_variables d
  pub endless : HasNoLeastCost places d
  pub descends : IsDescent rows (all_variables d) direction
  pub along : keys_of direction ≡ all_variables d
