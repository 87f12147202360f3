-- What `reduce` says over accepted data: a text of which only its first lines are known, which say what it is; or that there is no such text.
use Rattle.std.specs.Prelude.{◌≡◌, ℕ, List, ◌++◌, ◌⊎◌, codes}
use Rattle.model_sets.specs.Data.{Data}
use Rattle.command_answers.specs.declared.status.Status.{Status}
use Rattle.command_answers.specs.declared.status.Status.TheVariants.{Done, Refused}
use Rattle.command_answers.specs.declared.status.Refusal.TheVariants.{NoReduced}
use Rattle.command_answers.specs.Lines.{no_reduced_line}
use Rattle.command_answers.specs.MadeBooks.{HasNoRows}
use Rattle.command_answers.specs.MadeRows.{IsMadeFor}

-- the first lines, which are comments of free MPS
abbrev pub head : List ℕ
head =
    codes "* The linear program that guesses of 'osemosys solve --method rounded' solve, without the room that they leave for rounding:\n* the equations in fewer rows, in floating point. Nothing is proved of it. Columns are those of the text of 'osemosys mps', also those\n* that have no entry here, so that what a solver finds can be given to 'osemosys solve --start'. Each row's greatest entry is 1 or -1.\n"

-- a text begins with them
abbrev pub BeginsSo : List ℕ → Type 0
BeginsSo text = (rest : List ℕ) × (text ≡ head ++ rest)

-- what is due over rows: such a text, or that there is none
abbrev pub DueForRows : Status → List ℕ → Type 0
DueForRows status text = ((status ≡ Done) × BeginsSo text) ⊎ ((status ≡ Refused NoReduced) × (text ≡ no_reduced_line))

-- What is due over these data, with written factors of so many decimal places.
abbrev pub DueForReduced : ℕ → Data → Status → List ℕ → Type 0
DueForReduced places d status text = IsMadeFor places d (λ rows. DueForRows status text) ⊎ HasNoRows places d status text
