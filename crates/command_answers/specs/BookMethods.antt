-- How the methods end on the rows of a book, whose named equations say which variable each row defines.
use Rattle.std.specs.Prelude.{ℕ, List, Option}
use Rattle.row_core.specs.declared.Row.{Row}
use Rattle.row_core.specs.declared.Var.{Var}
pub use Rattle.certified_answers.specs.Answers.{IsFoundBy}
use Rattle.decimal_solver.specs.Attempts as grid
use Rattle.exact_solver.specs.MethodEnds as exact
use Rattle.command_answers.specs.Definers.{definers}

-- the exact method, with so many pivots at most
abbrev pub method_end : List Row → List Var → ℕ → exact.MethodEnd
method_end rows vars pivots = exact.method_end rows (definers rows) vars pivots

-- the attempt on a grid
abbrev pub grid_end : List Row → List Var → ℕ → ℕ → Option grid.Attempt
grid_end rows vars gap pivots = grid.grid_end rows (definers rows) vars gap pivots
