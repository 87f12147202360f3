-- The linear program that is left of rows, and what is carried back from it: the written method as a function of the rows, what they define, and their variables.
use Rattle.std.specs.Prelude.{ℤ, pos, neg_ℤ, Bool, List, [], ◌∷◌, map, filter, Option, Some, None}
use Rattle.row_problem.specs.Prelude.{Rational, whole, Step, Row, RowName, Var, Place, LiftPlan, LiftDirection, var_cmp, number_at, definitions_of, others_of, ReducedRow, cost_row, cost_variable, expanded_all, is_column, other_entries, reduced_rows, Inequality, LinearProgram, sign_of, Cost, Model, One, Values, Multipliers}
use Rattle.row_core.specs.Forms.{Form}
use Rattle.written_method.specs.Lifted.{lifted, lifted_steps, no_right_side, right_side}
use Rattle.written_method.specs.Multiplied.{multiplier_steps, named_multipliers}

-- ---- what is left

-- the rows that define nothing, without their defined variables
abbrev pub rows_left : List Row → List (Option Var) → List ReducedRow
rows_left rows defs = reduced_rows (expanded_all [] (definitions_of rows defs)) (others_of rows defs)

-- the row of the model's cost, without its defined variables
abbrev pub cost_left : List Row → List (Option Var) → Form
cost_left rows defs = cost_row (expanded_all [] (definitions_of rows defs)) defs

-- the entries of z less a cost that takes the place of the model's
abbrev pub aim_entries : Cost → List (Var × ℤ)
aim_entries Model = []
aim_entries (One var goal) = (var, neg_ℤ (sign_of goal)) ∷ []

-- z less the cost, which the linear program says is a number: of the model's cost what is left of its row, and else one variable
abbrev pub cost_entries_left : Cost → List Row → List (Option Var) → List (Var × ℤ)
cost_entries_left Model rows defs = other_entries var_cmp cost_variable (cost_left rows defs).entries
cost_entries_left (One var goal) rows defs = aim_entries (One var goal)

abbrev pub cost_right_left : Cost → List Row → List (Option Var) → ℤ
cost_right_left Model rows defs = (cost_left rows defs).right
cost_right_left (One var goal) rows defs = pos 0

abbrev pub cost_own_left : Cost → List Row → List (Option Var) → ℤ
cost_own_left Model rows defs = number_at (cost_left rows defs).entries cost_variable
cost_own_left (One var goal) rows defs = pos 1

abbrev pub inequality_in : ReducedRow → Inequality
inequality_in row = record { sense = row.sense; entries = row.scaled.form.entries; right = row.scaled.form.right }

-- the linear program: its columns are the variables that a plan chooses freely
unfoldable pub program_left : List Row → List (Option Var) → List Var → Cost → LinearProgram
program_left rows defs vars cost = record {
  rows = map inequality_in (rows_left rows defs);
  columns = filter is_column vars;
  cost = cost_entries_left cost rows defs;
  cost_right = cost_right_left cost rows defs;
  cost_own = cost_own_left cost rows defs;
}

-- ---- what is carried back

abbrev pub name_left : ReducedRow → RowName
name_left row = row.name

-- the scale that is kept; every row that defines nothing keeps one
abbrev pub kept_scale : Option Rational → Rational
kept_scale None = whole (pos 1)
kept_scale (Some scale) = scale

abbrev pub scale_left : ReducedRow → Rational
scale_left row = kept_scale row.scaled.scale

-- values of the columns, with those of the defined variables; and the steps
unfoldable pub carried_plan : List Row → List (Option Var) → Values → Values
carried_plan rows defs values = lifted right_side (definitions_of rows defs) values

unfoldable pub plan_steps : List Row → List (Option Var) → Values → List (Step Place)
plan_steps rows defs values = lifted_steps right_side LiftPlan (definitions_of rows defs) values

-- the same of a direction
unfoldable pub carried_direction : List Row → List (Option Var) → Values → Values
carried_direction rows defs values = lifted no_right_side (definitions_of rows defs) values

unfoldable pub direction_steps : List Row → List (Option Var) → Values → List (Step Place)
direction_steps rows defs values = lifted_steps no_right_side LiftDirection (definitions_of rows defs) values

-- multipliers of the rows that are left, under the names of their rows, with those of the definitions; with the cost or without it; and the steps
unfoldable pub carried_multipliers : Bool → List Row → List (Option Var) → List Rational → Multipliers
carried_multipliers with_cost rows defs lambda =
    named_multipliers with_cost rows (definitions_of rows defs) (map name_left (rows_left rows defs)) (map scale_left (rows_left rows defs)) lambda

unfoldable pub carrying_steps : Bool → List Row → List (Option Var) → List Rational → List (Step Place)
carrying_steps with_cost rows defs lambda =
    multiplier_steps with_cost rows (definitions_of rows defs) (map name_left (rows_left rows defs)) (map scale_left (rows_left rows defs)) lambda
