-- The linear program that is left of the rows of a book.
use Rattle.std.specs.Prelude.{◌≡◌, List}
use Rattle.row_core.specs.declared.Row.{Row}
use Rattle.row_core.specs.declared.Var.{Var}
use Rattle.certified_answers.specs.declared.costs.Cost.TheVariants.{Model}
use Rattle.row_problem.specs.ProgramsOf as problems
use Rattle.command_answers.specs.Definers.{definers}
use Rattle.command_answers.specs.declared.methods.BookProgram.{BookProgram}

-- what each row defines is said by its named equation, and the linear program is what is left of the rows at the model's cost
pub record IsProgramOf (rows : List Row) (vars : List Var) (program : BookProgram) : Type 0 where
  pub defs : program.defs.items ≡ definers rows
  pub left : problems.IsProgramOf rows program.defs.items vars Model program.reduced
