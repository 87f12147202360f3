-- What `mps` writes over accepted data, with written factors of so many decimal places: the MPS text of a row for each instance of the named equations, or why a row can't be made.
use Rattle.std.specs.Prelude.{◌≡◌, ℕ, List, ◌⊎◌}
use Rattle.model_sets.specs.Data.{Data}
use Rattle.mps_writer.specs.MpsText.{mps_text}
use Rattle.named_equations.specs.Instances.{instances}
use Rattle.row_core.specs.RowLists.{AreVariablesOf}
use Rattle.row_book.specs.Books.{AreRowsOf, CanBeMade}
use Rattle.row_core.specs.declared.Row.{Row}
use Rattle.row_core.specs.declared.Var.{Var}
use Rattle.command_answers.specs.declared.status.Status.{Status}
use Rattle.command_answers.specs.declared.status.Status.TheVariants.{Done}
use Rattle.command_answers.specs.MadeRows.{IsTooLarge, IsUncertified}

-- the text is the MPS text of rows, one for each instance of the named equations, in order, with the variables of the rows as its columns
pub record WritesEquations (places : ℕ) (d : Data) (text : List ℕ) : Type 0 where
  pub rows : List Row
  pub columns : List Var
  pub are_rows : AreRowsOf places d (instances d) rows
  pub are_columns : AreVariablesOf rows columns
  pub is : text ≡ mps_text d.sets rows columns

-- every row can be made, and the equations are written
pub record IsWritten (places : ℕ) (d : Data) (status : Status) (text : List ℕ) : Type 0 where
  pub made : CanBeMade places d 0 (instances d)
  pub status_is : status ≡ Done
  pub writes : WritesEquations places d text

-- What is due over these data.
abbrev pub DueForEquations : ℕ → Data → Status → List ℕ → Type 0
DueForEquations places d status text = IsWritten places d status text ⊎ IsUncertified places d status text ⊎ IsTooLarge places d status text
