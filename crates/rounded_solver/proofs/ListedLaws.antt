-- The rows of a problem ascend by name, and its variables are listed.
use Rattle.std.specs.Prelude.{List, Option}
use Rattle.row_core.specs.declared.Row.{Row}
use Rattle.row_core.specs.declared.Var.{Var}
use Rattle.row_problem.specs.Problems.{IsProblem}
use Rattle.rounded_solver.specs.Listed.{AreListed}

pub listed-problem : (rows : List Row) (defs : List (Option Var)) (vars : List Var) → IsProblem rows defs vars → AreListed rows vars
listed-problem rows defs vars problem = record { named = problem.named; ascending = problem.ascending; listed = problem.listed }
