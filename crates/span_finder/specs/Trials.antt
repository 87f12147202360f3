-- A trial: the value of one variable over rows, of which one limits the cost.
use Rattle.std.specs.Prelude.{◌≡◌, ℕ, ℤ, pos, ◌*ℤ◌, ◌≤ℤ◌, Contains, List, Option, Some, None}
use Rattle.row_problem.specs.Prelude.{Rational, value_of, Frac, Row, Var, NEW_CAPACITY, keys_of, var_cmp, value_in, MeetsAll, weight_of, IsDescentFor, IsPlan, plan_cost, One, Goal, Least, Greatest, Values}
use Rattle.row_problem.specs.ProgramsOf.{IsPosedProblem}
use Rattle.row_problem.specs.declared.problem.Problem.{Problem}
use Rattle.span_finder.specs.declared.found.Span.{Span}

-- the variable is a NewCapacity of the rows
pub record IsCapacityOf (vars : List Var) (var : Var) : Type 0 where
  pub chosen : var.kind ≡ NEW_CAPACITY
  pub listed : Contains vars var

-- a trial for its least value or its greatest
pub record IsTrial (problem : Problem) (var : Var) (goal : Goal) : Type 0 where
  pub posed : IsPosedProblem problem
  pub cost : problem.cost ≡ One var goal
  pub capacity : IsCapacityOf problem.vars.now var

-- no plan of the rows has less of the variable than this value, where the least is looked for, or more, where the greatest is
abbrev pub NonePasses : Goal → List Row → List Var → Var → Rational → Type 0
NonePasses Least rows vars var value = (q : ℕ) (x : Var → ℤ) → MeetsAll rows vars q x → (value.top *ℤ pos q) ≤ℤ (x var *ℤ value.bottom)
NonePasses Greatest rows vars var value = (q : ℕ) (x : Var → ℤ) → MeetsAll rows vars q x → (x var *ℤ value.bottom) ≤ℤ (value.top *ℤ pos q)

-- a plan of the rows that none passes
pub record IsExtreme (rows : List Row) (vars : List Var) (var : Var) (goal : Goal) (plan : Values) : Type 0 where
  pub is_plan : IsPlan rows vars plan (plan_cost vars plan)
  pub complete : keys_of plan ≡ vars
  pub none_passes : NonePasses goal rows vars var (value_in var_cmp plan var)

-- a plan of the rows, and a direction along which the value grows
pub record IsRise (rows : List Row) (vars : List Var) (var : Var) (plan direction : Values) : Type 0 where
  pub is_plan : IsPlan rows vars plan (plan_cost vars plan)
  pub complete : keys_of plan ≡ vars
  pub along : keys_of direction ≡ vars
  pub descends : IsDescentFor (weight_of (One var Greatest)) rows vars direction

-- what is found of the greatest value
abbrev pub IsHighFound : List Row → List Var → Var → Values → Option Frac → Option Values → Type 0
IsHighFound rows vars var plan (Some high) None = (value_of high ≡ value_in var_cmp plan var) × IsExtreme rows vars var Greatest plan
IsHighFound rows vars var plan (Some high) (Some direction) = ⊥
IsHighFound rows vars var plan None (Some direction) = IsRise rows vars var plan direction
IsHighFound rows vars var plan None None = ⊥

-- what both trials found
pub record AreFound (rows : List Row) (vars : List Var) (var : Var) (span : Span) : Type 0 where
  pub low_is : value_of span.low ≡ value_in var_cmp span.low_plan var
  pub low : IsExtreme rows vars var Least span.low_plan
  pub high : IsHighFound rows vars var span.high_plan span.high span.direction
