-- How large a linear program may be to be solved, and what is due where it is larger.
use Rattle.std.specs.Prelude.{◌≡◌, ℕ, List, ◌≤◌, ◌<◌, ◌⊎◌, Option, None, Some}
use Rattle.row_core.specs.declared.Row.{Row}
use Rattle.row_core.specs.declared.Var.{Var}
use Rattle.row_problem.specs.Sizes.{column_count, inequality_count}
use Rattle.command_answers.specs.declared.answer.Answer.{Answer}
use Rattle.command_answers.specs.declared.status.Status.{Status}
use Rattle.command_answers.specs.declared.status.Status.TheVariants.{Refused, Unguessed}
use Rattle.command_answers.specs.declared.status.Refusal.TheVariants.{TooLarge}
use Rattle.command_answers.specs.Lines.{too_large_line, unguessed_line}
use Rattle.command_words.specs.declared.command.SolveMethod.{SolveMethod}
use Rattle.command_words.specs.declared.command.SolveMethod.TheVariants.{Exact, Rounded}

-- the most inequalities and the most columns of a linear program that is solved
abbrev pub most_rows : ℕ
most_rows = 20000

abbrev pub most_columns : ℕ
most_columns = 40000

-- the linear program of these rows and variables has no more
abbrev pub IsWithinLimits : List Row → List Var → Type 0
IsWithinLimits rows vars = (inequality_count rows ≤ most_rows) × (column_count vars ≤ most_columns)

-- What is told of a linear program that has more, by its counts of rows and columns. With the exact method it is refused, and the line has both. With the rounded one it comes to this
-- where no guess is accepted: the exact method can't follow, and the line has the most pivots that each guess could make.
abbrev pub TellsSize : SolveMethod → (pivots rows columns : ℕ) → Status → List ℕ → Type 0
TellsSize Exact pivots rows columns status text = (status ≡ Refused (TooLarge rows columns)) × (text ≡ too_large_line rows columns)
TellsSize Rounded pivots rows columns status text = (status ≡ Unguessed pivots) × (text ≡ unguessed_line pivots)

-- it has more, and that is told by the method
pub record PassesLimits (method : SolveMethod) (pivots : ℕ) (rows : List Row) (vars : List Var) (status : Status) (text : List ℕ) : Type 0 where
  pub passed : (most_rows < inequality_count rows) ⊎ (most_columns < column_count vars)
  pub told : TellsSize method pivots (inequality_count rows) (column_count vars) status text

-- an answer tells so, and there is none where it hasn't
abbrev pub TellsLimits : SolveMethod → ℕ → List Row → List Var → Option Answer → Type 0
TellsLimits method pivots rows vars None = IsWithinLimits rows vars
TellsLimits method pivots rows vars (Some answer) = PassesLimits method pivots rows vars answer.status answer.text.items
