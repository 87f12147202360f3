-- A trial: the exact method at no cost, on every equation and on some of the inequalities.
use Rattle.std.specs.Prelude.{◌≡◌, ℕ, pos, Bool, false, not, ◌||◌, List, [], ◌++◌, map, filter, Option, Some, None, ⊤}
use Rattle.row_problem.specs.Prelude.{Rational, Step, first_wide, Row, RowName, Var, Place, definitions_of, ReducedRow, is_column, LinearProgram, NoAnswer, Values, Multipliers}
use Rattle.written_method.specs.Multiplied.{multiplier_steps, named_multipliers}
use Rattle.written_method.specs.Solved.{Outcome, IsOptimal, IsInfeasible, IsUnbounded, IsOutOfPivots, IsTooWide, solved}
use Rattle.exact_solver.specs.MethodEnds as method
use Rattle.exact_solver.specs.MethodEnds.{refutation_checks}
use Rattle.row_problem.specs.Programs.{carried_plan, inequality_in, name_left, plan_steps, rows_left, scale_left}
use Rattle.row_problem.specs.Sizes.{is_unequal}
use Rattle.certified_answers.specs.declared.answers.NoAnswer.TheVariants as stops

-- ---- what a trial is made of

-- the rows of a trial: every equation, and the inequalities that are listed
abbrev pub rows_with : (RowName → Bool) → List Row → List Row
rows_with listed rows = filter (λ row. not (is_unequal row.sense) || listed row.name) rows

-- what is left of them when the defined variables are removed; no equation is left
abbrev pub rows_tried : (RowName → Bool) → List Row → List (Option Var) → List ReducedRow
rows_tried listed rows defs = filter (λ row. listed row.name) (rows_left rows defs)

-- the linear program: it has all columns, and no cost
unfoldable pub trial_program : (RowName → Bool) → List Row → List (Option Var) → List Var → LinearProgram
trial_program listed rows defs vars = record { rows = map inequality_in (rows_tried listed rows defs); columns = filter is_column vars; cost = []; cost_right = pos 0; cost_own = pos 1 }

-- the multipliers of all rows, from one for each row that is tried; and the steps. A row that isn't tried has the multiplier 0
unfoldable pub tried_multipliers : (RowName → Bool) → List Row → List (Option Var) → List Rational → Multipliers
tried_multipliers listed rows defs lambda =
    named_multipliers false rows (definitions_of rows defs) (map name_left (rows_tried listed rows defs)) (map scale_left (rows_tried listed rows defs)) lambda

unfoldable pub tried_steps : (RowName → Bool) → List Row → List (Option Var) → List Rational → List (Step Place)
tried_steps listed rows defs lambda =
    multiplier_steps false rows (definitions_of rows defs) (map name_left (rows_tried listed rows defs)) (map scale_left (rows_tried listed rows defs)) lambda

-- the check of a plan, over the rows of the trial
abbrev pub plan_checks : (RowName → Bool) → List Row → List Var → Values → List (Step Place)
plan_checks listed rows vars plan = method.plan_checks (rows_with listed rows) vars plan

-- ---- how a trial ends

-- with a plan of its rows; with multipliers that refute them; with a pivot that is due after the last; or at the place of the first step that forms a number that doesn't fit
pub data TrialEnd : Type 0 where
  HasPlan : (plan : Values) → TrialEnd
  HasNone : (multipliers : Multipliers) → TrialEnd
  IsPivotDue : TrialEnd
  IsWide : (place : Place) → TrialEnd

-- this end, where every number of the steps before it fits
abbrev pub unless_stopped : Option Place → TrialEnd → TrialEnd
unless_stopped None end = end
unless_stopped (Some place) end = IsWide place

-- values of the columns are carried back to a plan, and checked
abbrev pub planned_end : (RowName → Bool) → List Row → List (Option Var) → List Var → Values → TrialEnd
planned_end listed rows defs vars values =
    unless_stopped (first_wide (plan_steps rows defs values ++ plan_checks listed rows vars (carried_plan rows defs values))) (HasPlan (carried_plan rows defs values))

-- multipliers of the rows that are tried are carried back to all rows, and checked over all rows
abbrev pub refuted_end : (RowName → Bool) → List Row → List (Option Var) → List Var → List Rational → TrialEnd
refuted_end listed rows defs vars lambda =
    unless_stopped (first_wide (tried_steps listed rows defs lambda ++ refutation_checks rows vars (tried_multipliers listed rows defs lambda))) (HasNone (tried_multipliers listed rows defs lambda))

-- after the simplex. At no cost nothing falls without end; values that meet the rows are a plan all the same
abbrev pub carried_trial : (RowName → Bool) → List Row → List (Option Var) → List Var → Outcome → TrialEnd
carried_trial listed rows defs vars (IsOptimal values lambda pivots) = planned_end listed rows defs vars values
carried_trial listed rows defs vars (IsInfeasible lambda pivots) = refuted_end listed rows defs vars lambda
carried_trial listed rows defs vars (IsUnbounded values direction pivots) = planned_end listed rows defs vars values
carried_trial listed rows defs vars IsOutOfPivots = IsPivotDue
carried_trial listed rows defs vars (IsTooWide place) = IsWide place

-- the end with so many pivots at most
unfoldable pub trial_end : (RowName → Bool) → List Row → List (Option Var) → List Var → ℕ → TrialEnd
trial_end listed rows defs vars pivots = carried_trial listed rows defs vars (solved pivots (trial_program listed rows defs vars))

-- why a trial stops: a pivot is due after the last that may be made, or the place is that of the first step that forms a number that doesn't fit; out of memory has no cause
abbrev pub StopsTrial : TrialEnd → NoAnswer → Type 0
StopsTrial end stops.Nothing = ⊥
StopsTrial end stops.Budget = end ≡ IsPivotDue
StopsTrial end (stops.Width place) = end ≡ IsWide place
StopsTrial end stops.Memory = ⊤
