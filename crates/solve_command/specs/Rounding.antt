-- What is told of what guesses find.
use Rattle.std.specs.Prelude.{◌≡◌, ℕ, List}
use Rattle.model_sets.specs.Members.{SetLists}
use Rattle.row_core.specs.declared.Row.{Row}
use Rattle.row_core.specs.declared.Var.{Var}
use Rattle.certified_answers.specs.declared.answers.Certified.{Certified}
use Rattle.result_tables.specs.declared.attempts.FoundBy.TheVariants.{ByGuesses}
use Rattle.solve_command.specs.declared.solve.Wanted.{Wanted}
use Rattle.command_answers.specs.declared.status.Status.{Status}
use Rattle.solve_command.specs.SolveOutcomes.{PricesFitIn, solution_shown, status_of}

-- the status and the text tell it, and the numbers that are formed for its prices fit
pub record TellsFound (sets : SetLists) (rows : List Row) (vars : List Var) (wanted : Wanted) (rounded places : ℕ) (solution : Certified) (status : Status) (text : List ℕ) : Type 0 where
  pub fits : PricesFitIn wanted.show rows solution
  pub status_is : status ≡ status_of solution
  pub text_is : text ≡ solution_shown wanted.show sets rows vars rounded places (ByGuesses wanted.begun) solution
