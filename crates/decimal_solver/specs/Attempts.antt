-- How the attempt ends over all rows: its values and multipliers carried back to them, and the checker's yes.
use Rattle.std.specs.Prelude.{ℕ, ◌&&◌, pos, true, List, [], ◌∷◌, replicate, Option, Some, None, is_none, if◌then◌else◌}
use Rattle.row_problem.specs.Prelude.{Rational, whole, first_wide, Row, Var, LinearProgram, model_cost, gap_condition, plan_conditions, multiplier_bound, plan_cost, passes, Model, Values, Multipliers}
use Rattle.certificate_checker.specs.MultiplierChecks.{bound_conditions}
use Rattle.row_problem.specs.Programs.{carried_multipliers, carried_plan, carrying_steps, plan_steps, program_left}
use Rattle.decimal_solver.specs.Ends.{column_values, row_multipliers, spread, variable_values}
use Rattle.decimal_solver.specs.Numbers.{and_then}
use Rattle.decimal_solver.specs.Rounds.{run}
use Rattle.decimal_solver.specs.Starts.{first_state}
use Rattle.decimal_solver.specs.States.{State}

pub record Attempt : Type 0 where
  pub plan : Values
  pub multipliers : Multipliers
  pub cost : Rational
  pub bound : Rational
  pub pivots : ℕ

-- the plan and the multipliers, where the checker says yes to the plan, to the bound, and to the gap between them
abbrev pub checked : List Row → List Var → ℕ → Values → Multipliers → ℕ → Option Attempt
checked rows vars ppm plan multipliers pivots =
    if passes (plan_conditions model_cost rows vars plan)
    && (passes (bound_conditions model_cost rows vars multipliers)
    && passes (gap_condition (plan_cost vars plan) (multiplier_bound rows multipliers) ppm ∷ []))
    then Some (record { plan = plan; multipliers = multipliers; cost = plan_cost vars plan; bound = multiplier_bound rows multipliers; pivots = pivots })
    else None

-- values and multipliers of the linear program, carried back to all rows
abbrev pub carried : List Row → List (Option Var) → List Var → ℕ → Values → List Rational → ℕ → Option Attempt
carried rows defs vars ppm values lambda pivots =
    if is_none (first_wide (plan_steps rows defs values)) && is_none (first_wide (carrying_steps true rows defs lambda))
    then checked rows vars ppm (carried_plan rows defs values) (carried_multipliers true rows defs lambda) pivots
    else None

-- the last state's values and multipliers
abbrev pub state_end : List Row → List (Option Var) → List Var → ℕ → LinearProgram → State → Option Attempt
state_end rows defs vars ppm p s =
    and_then (variable_values (column_values (replicate s.columns (whole (pos 0))) s.rows) 0 [] p.columns)
    (λ values. and_then (row_multipliers (spread (replicate s.columns (pos 0)) s.cost.entries) s.slack [] s.rows)
    (λ lambda. carried rows defs vars ppm values lambda s.pivots))

-- the attempt on a linear program that is left of rows
abbrev pub program_end : List Row → List (Option Var) → List Var → ℕ → ℕ → LinearProgram → Option Attempt
program_end rows defs vars ppm pivots p = and_then (first_state p) (λ first. and_then (run pivots first) (λ last. state_end rows defs vars ppm p last))

-- the attempt on rows and their variables: to within so many millionths of the bound, with so many pivots at most
unfoldable pub grid_end : List Row → List (Option Var) → List Var → ℕ → ℕ → Option Attempt
grid_end rows defs vars ppm pivots = program_end rows defs vars ppm pivots (program_left rows defs vars Model)
