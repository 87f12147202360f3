-- The linear program of rows, as it is in memory.
use Rattle.std.specs.Prelude.{◌≡◌, Contains, List, Option, filter, map}
use Rattle.row_problem.specs.Prelude.{value_of, Row, Var, names_of, Reduced, definitions_of, others_of, rows_of, is_column, program_of, IsPosed, IsReady, Cost, Model, One}
use Rattle.variable_elimination.specs.Eliminations.{IsPartOf, IsWhole}
use Rattle.variable_elimination.specs.ReducedRows.{AreReductions}
use Rattle.row_problem.specs.Problems.{IsProblem}
use Rattle.row_problem.specs.Programs.{name_left, program_left, rows_left, scale_left}
use Rattle.row_problem.specs.declared.problem.Problem.{Problem}

-- It is what is left of the rows when the variables that they define are removed: each of its rows is one of those that define nothing, reduced, those that
-- aren't there are true of 0, and at the model's cost so is its cost; its columns are the variables that a plan chooses; it is ready to be solved, and it has no
-- equation; and it is the written method's, with the names and the scales of its rows.
pub record IsProgramOf (rows : List Row) (defs : List (Option Var)) (vars : List Var) (cost : Cost) (reduced : Reduced) : Type 0 where
  pub problem : IsProblem rows defs vars
  pub part : IsPartOf rows defs reduced
  pub whole : cost ≡ Model → IsWhole rows defs reduced
  pub reductions : AreReductions (rows_of (definitions_of rows defs)) (others_of rows defs) reduced.rows.items reduced.scales.items
  pub columns : reduced.columns.items ≡ filter is_column vars
  pub ready : IsReady reduced
  pub posed : IsPosed (program_of reduced)
  pub left : program_of reduced ≡ program_left rows defs vars cost
  pub names : names_of reduced.rows.items ≡ map name_left (rows_left rows defs)
  pub scales : map value_of reduced.scales.items ≡ map scale_left (rows_left rows defs)

-- what a question is asked of
abbrev pub IsPosedProblem : Problem → Type 0
IsPosedProblem problem = IsProgramOf problem.rows.now problem.defs.now problem.vars.now problem.cost problem.reduced.now

-- a cost that may take the place of another: the value of a column
abbrev pub MayAim : List Var → Cost → Type 0
MayAim columns Model = ⊥
MayAim columns (One var goal) = Contains columns var
