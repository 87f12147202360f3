-- The method from the first tableau to the values and multipliers of its end.
use Rattle.std.specs.Prelude.{ℕ, ◌+◌, pos, List, [], ◌++◌, Option, Some, None}
use Rattle.exact_num.specs.Rational.{Rational}
use Rattle.exact_num.specs.Steps.{Step, first_wide}
use Rattle.row_core.specs.declared.Var.{Var}
use Rattle.row_core.specs.declared.place.Place.{Place}
use Rattle.row_core.specs.declared.place.Place.TheVariants as places
use Rattle.written_method.specs.FirstTableau.{first_state, width_of}
use Rattle.written_method.specs.Programs.{LinearProgram}
use Rattle.written_method.specs.Rounds.{State}
use Rattle.written_method.specs.Runs.{Answer, Ended, RanOut, End, Optimal, Infeasible, Unbounded, PivotDue, answer}
use Rattle.written_method.specs.Tableaus.{Tableau, line_of, rows_of}
use Rattle.written_method.specs.Values.{by_variable, by_variable_steps, column_direction, column_value, multipliers_from}

-- how the method ends, after so many pivots: with values and multipliers; with multipliers that refute the rows; with values and a
-- direction; with a pivot that is due after the last; or at the first place where a number that is formed doesn't fit
pub data Outcome : Type 0 where
  IsOptimal : (values : List (Var × Rational)) → (multipliers : List Rational) → (pivots : ℕ) → Outcome
  IsInfeasible : (multipliers : List Rational) → (pivots : ℕ) → Outcome
  IsUnbounded : (values direction : List (Var × Rational)) → (pivots : ℕ) → Outcome
  IsOutOfPivots : Outcome
  IsTooWide : (place : Place) → Outcome

-- the values of the variables
abbrev pub values_of : LinearProgram → Tableau → List (Var × Rational)
values_of p t = by_variable (column_value t) 0 p.columns

abbrev pub value_steps : LinearProgram → Tableau → List (Step Place)
value_steps p t = by_variable_steps places.LiftPlan (column_value t) 0 p.columns

-- the direction in which column e grows
abbrev pub direction_of : LinearProgram → Tableau → ℕ → List (Var × Rational)
direction_of p t e = by_variable (column_direction t e) 0 p.columns

abbrev pub direction_steps : LinearProgram → Tableau → ℕ → List (Step Place)
direction_steps p t e = by_variable_steps places.LiftDirection (column_direction t e) 0 p.columns

-- the multipliers by the line of z, over its entry at z
abbrev pub optimal_multipliers : LinearProgram → Tableau → List Rational
optimal_multipliers p t = multipliers_from (width_of p.columns) (line_of t (rows_of t)) (line_of t (rows_of t)).own p.rows

-- the multipliers by the line of w
abbrev pub refuting_multipliers : LinearProgram → Tableau → List Rational
refuting_multipliers p t = multipliers_from (width_of p.columns) (line_of t (rows_of t + 1)) (pos 1) p.rows

-- the steps after the last pivot: the plan before the direction
abbrev pub end_steps : LinearProgram → End → State → List (Step Place)
end_steps p Optimal last = value_steps p last.tableau
end_steps p Infeasible last = []
end_steps p (Unbounded e) last = value_steps p last.tableau ++ direction_steps p last.tableau e
end_steps p PivotDue last = []

abbrev pub outcome_of_end : LinearProgram → End → State → Outcome
outcome_of_end p Optimal last = IsOptimal (values_of p last.tableau) (optimal_multipliers p last.tableau) last.pivots
outcome_of_end p Infeasible last = IsInfeasible (refuting_multipliers p last.tableau) last.pivots
outcome_of_end p (Unbounded e) last = IsUnbounded (values_of p last.tableau) (direction_of p last.tableau e) last.pivots
outcome_of_end p PivotDue last = IsOutOfPivots

-- the end, where every number of its steps fits
abbrev pub checked_end : LinearProgram → End → State → Option Place → Outcome
checked_end p e last None = outcome_of_end p e last
checked_end p e last (Some place) = IsTooWide place

abbrev pub outcome_of : LinearProgram → Answer → Outcome
outcome_of p (Ended e last) = checked_end p e last (first_wide (end_steps p e last))
outcome_of p (RanOut place) = IsTooWide place

-- the outcome with n pivots at most: the steps of the pivots come before those of the end
abbrev pub solved : ℕ → LinearProgram → Outcome
solved n p = outcome_of p (answer n (first_state p))
