-- The book of rows of a model, what is due where there is none, and what is due by the size of the linear program that is left of its rows: the same for every command
-- that asks something of them.
use Rattle.std.specs.Prelude.{ℕ, List, ◌⊎◌, Result, Ok, Err}
use Rattle.model_sets.specs.Data.{Data}
use Rattle.named_equations.specs.Instances.{instances}
use Rattle.row_book.specs.Books.{Book, CanBeMade}
use Rattle.row_core.specs.declared.Row.{Row}
use Rattle.row_core.specs.declared.Var.{Var}
use Rattle.command_answers.specs.CheckedPlans.{IsBookOf, IsListedBook}
use Rattle.command_answers.specs.Limits.{IsWithinLimits, PassesLimits}
use Rattle.command_answers.specs.MadeRows.{IsMadeFor, IsTooLarge, IsUncertified}
use Rattle.command_answers.specs.declared.answer.Answer.{Answer}
use Rattle.command_words.specs.declared.command.SolveMethod.{SolveMethod}
use Rattle.command_answers.specs.declared.status.Status.{Status}

-- every row of the named equations can be made, and the book holds them, and the variables
pub record IsMadeBook (places : ℕ) (d : Data) (book : Book) : Type 0 where
  pub made : CanBeMade places d 0 (instances d)
  pub is_book : IsBookOf places d book.rows book.vars
  pub listed : IsListedBook d.sets book.rows book.vars

-- ---- what is due

-- a row can't be made
abbrev pub HasNoRows : ℕ → Data → Status → List ℕ → Type 0
HasNoRows places d status text = IsUncertified places d status text ⊎ IsTooLarge places d status text

-- What is due for a command that has `Over` of rows that can be made.
abbrev pub DueForProgram : (List Row → Status → List ℕ → Type 0) → ℕ → Data → Status → List ℕ → Type 0
DueForProgram Over places d status text = IsMadeFor places d (λ rows. Over rows status text) ⊎ HasNoRows places d status text

-- Of rows: `Found` whatever the size of their linear program; or, by the size, what is told with this method and so many pivots where it is too large, or `Over` where it isn't.
abbrev pub DueBySize : SolveMethod → ℕ → (Found Over : Status → List ℕ → Type 0) → List Row → List Var → Status → List ℕ → Type 0
DueBySize method pivots Found Over rows vars status text = Found status text ⊎ PassesLimits method pivots rows vars status text ⊎ (IsWithinLimits rows vars × Over status text)

-- ---- a book, or the answer where there is none

abbrev pub TellsMade : ℕ → Data → Result Book Answer → Type 0
TellsMade places d (Ok book) = IsMadeBook places d book
TellsMade places d (Err answer) = HasNoRows places d answer.status answer.text.items
