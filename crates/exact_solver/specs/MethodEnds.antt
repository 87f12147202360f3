-- How the exact method ends on rows: elimination, simplex, carrying back, and the checks of all that was found, in this order.
use Rattle.std.specs.Prelude.{◌≡◌, ℕ, false, List, [], ◌∷◌, ◌++◌, Option, Some, None, Result, Ok, Err, ⊤}
use Rattle.row_problem.specs.Prelude.{Rational, Step, first_wide, Row, Var, Place, elimination_steps, model_cost, gap_condition, direction_conditions, plan_conditions, IsComplete, IsNamed, IsProvedFor, is_model, weight_of, multiplier_bound, plan_cost, NoAnswer, Cost, Model, One, Values, Multipliers}
use Rattle.written_method.specs.Solved.{Outcome, IsOptimal, IsInfeasible, IsUnbounded, IsOutOfPivots, IsTooWide, solved}
use Rattle.certificate_checker.specs.Conditions.{steps}
use Rattle.certificate_checker.specs.MultiplierChecks.{bound_conditions, infeasible_conditions}
use Rattle.simplex_core.specs.declared.ends.Halt.{Halt}
use Rattle.simplex_core.specs.declared.ends.Halt.TheVariants as halts
use Rattle.certified_answers.specs.declared.answers.Certified.{Certified}
use Rattle.certified_answers.specs.declared.answers.Certified.TheVariants as found
use Rattle.certified_answers.specs.declared.answers.NoAnswer.TheVariants as stops
use Rattle.row_problem.specs.Programs.{carried_direction, carried_multipliers, carried_plan, carrying_steps, direction_steps, plan_steps, program_left}

-- with a plan of least cost, and multipliers that prove it; with no plan, and multipliers that prove that; with a plan and a
-- direction along which the cost falls without end; with a pivot that is due after the last; or at the place of the first step that forms a number that doesn't fit
pub data MethodEnd : Type 0 where
  HasOptimum : (plan : Values) (multipliers : Multipliers) (pivots : ℕ) → MethodEnd
  HasNoPlan : (multipliers : Multipliers) (pivots : ℕ) → MethodEnd
  HasNoBound : (plan direction : Values) (pivots : ℕ) → MethodEnd
  IsPivotDue : MethodEnd
  IsWide : (place : Place) → MethodEnd

-- ---- the checks

-- of a plan
abbrev pub plan_checks : List Row → List Var → Values → List (Step Place)
plan_checks rows vars plan = steps (plan_conditions model_cost rows vars plan)

-- at the model's cost, of the gap between the cost of a plan and a bound, of which nothing is allowed
abbrev pub closing_checks : Cost → Rational → Rational → List (Step Place)
closing_checks Model amount bound = steps (gap_condition amount bound 0 ∷ [])
closing_checks (One var goal) amount bound = []

-- of a plan, of multipliers that prove a bound, and of the gap between them
abbrev pub optimum_checks : Cost → List Row → List Var → Values → Multipliers → List (Step Place)
optimum_checks cost rows vars plan multipliers =
    plan_checks rows vars plan
    ++ (steps (bound_conditions (weight_of cost) rows vars multipliers)
    ++ closing_checks cost (plan_cost vars plan) (multiplier_bound rows multipliers))

-- of multipliers that prove that there is no plan
abbrev pub refutation_checks : List Row → List Var → Multipliers → List (Step Place)
refutation_checks rows vars multipliers = steps (infeasible_conditions rows vars multipliers)

-- of a plan, and of a direction along which the cost falls
abbrev pub descent_checks : Cost → List Row → List Var → Values → Values → List (Step Place)
descent_checks cost rows vars plan direction =
    plan_checks rows vars plan ++ steps (direction_conditions (weight_of cost) rows vars direction)

-- ---- the end

-- this end, where every number of the steps before it fits
abbrev pub unless_wide : Option Place → MethodEnd → MethodEnd
unless_wide None end = end
unless_wide (Some place) end = IsWide place

-- the plan is carried back first, then the multipliers, with the model's cost and without another; then both are checked
abbrev pub optimal_end : Cost → List Row → List (Option Var) → List Var → Values → List Rational → ℕ → MethodEnd
optimal_end cost rows defs vars values lambda pivots =
    unless_wide
    (first_wide
    (plan_steps rows defs values
    ++ (carrying_steps (is_model cost) rows defs lambda ++ optimum_checks cost rows vars (carried_plan rows defs values) (carried_multipliers (is_model cost) rows defs lambda))))
    (HasOptimum (carried_plan rows defs values) (carried_multipliers (is_model cost) rows defs lambda) pivots)

-- the multipliers are carried back, and checked
abbrev pub infeasible_end : List Row → List (Option Var) → List Var → List Rational → ℕ → MethodEnd
infeasible_end rows defs vars lambda pivots =
    unless_wide
    (first_wide (carrying_steps false rows defs lambda ++ refutation_checks rows vars (carried_multipliers false rows defs lambda)))
    (HasNoPlan (carried_multipliers false rows defs lambda) pivots)

-- the plan is carried back, then the direction; then both are checked
abbrev pub unbounded_end : Cost → List Row → List (Option Var) → List Var → Values → Values → ℕ → MethodEnd
unbounded_end cost rows defs vars values direction pivots =
    unless_wide
    (first_wide
    (plan_steps rows defs values
    ++ (direction_steps rows defs direction ++ descent_checks cost rows vars (carried_plan rows defs values) (carried_direction rows defs direction))))
    (HasNoBound (carried_plan rows defs values) (carried_direction rows defs direction) pivots)

-- after the simplex: what it found is carried back, and then checked
abbrev pub carried_end : Cost → List Row → List (Option Var) → List Var → Outcome → MethodEnd
carried_end cost rows defs vars (IsOptimal values lambda pivots) = optimal_end cost rows defs vars values lambda pivots
carried_end cost rows defs vars (IsInfeasible lambda pivots) = infeasible_end rows defs vars lambda pivots
carried_end cost rows defs vars (IsUnbounded values direction pivots) = unbounded_end cost rows defs vars values direction pivots
carried_end cost rows defs vars IsOutOfPivots = IsPivotDue
carried_end cost rows defs vars (IsTooWide place) = IsWide place

-- the end on what is left of rows, with so many pivots at most
unfoldable pub solved_end : List Row → List (Option Var) → List Var → Cost → ℕ → MethodEnd
solved_end rows defs vars cost pivots = carried_end cost rows defs vars (solved pivots (program_left rows defs vars cost))

-- the end at the model's cost, with the elimination before it
unfoldable pub method_end : List Row → List (Option Var) → List Var → ℕ → MethodEnd
method_end rows defs vars pivots = unless_wide (first_wide (elimination_steps rows defs)) (solved_end rows defs vars Model pivots)

-- ---- what is answered

-- an answer, as an end of the method
abbrev pub end_seen : Certified → MethodEnd
end_seen (found.Optimal plan multipliers cost bound pivots) = HasOptimum plan multipliers pivots
end_seen (found.Infeasible multipliers pivots) = HasNoPlan multipliers pivots
end_seen (found.Unbounded plan direction pivots) = HasNoBound plan direction pivots

-- a pivot is due after the last that may be made; the place is that of the first step that forms a number that doesn't fit; out of memory has no cause
abbrev pub IsStopOf : MethodEnd → NoAnswer → Type 0
IsStopOf end stops.Nothing = ⊥
IsStopOf end stops.Budget = end ≡ IsPivotDue
IsStopOf end (stops.Width place) = end ≡ IsWide place
IsStopOf end stops.Memory = ⊤

-- what is answered is this end
abbrev pub IsEndOf : MethodEnd → Result Certified NoAnswer → Type 0
IsEndOf end (Ok found) = end_seen found ≡ end
IsEndOf end (Err answer) = IsStopOf end answer

-- a stop of the simplex method, as that of the whole
abbrev pub stop_at : Halt → NoAnswer
stop_at halts.Budget = stops.Budget
stop_at (halts.Width place) = stops.Width place
stop_at halts.Memory = stops.Memory

-- all that an answer is worth
pub record IsWorth (cost : Cost) (rows : List Row) (vars : List Var) (found : Certified) : Type 0 where
  pub proved : IsProvedFor cost rows vars found
  pub whole : IsComplete vars found
  pub named : IsNamed rows found
