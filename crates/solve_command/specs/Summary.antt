-- What `make` says in a few lines of the model that it makes: how large it is, and what `solve` with its default options comes to.
use Rattle.std.specs.Prelude.{◌≡◌, ℕ, List, ◌++◌, ◌⊎◌, length, codes}
use Rattle.std.specs.Fmt.{decimal}
use Rattle.model_sets.specs.Data.{Data}
use Rattle.mps_writer.specs.MpsText.{line}
use Rattle.row_core.specs.declared.Row.{Row}
use Rattle.row_core.specs.declared.Var.{Var}
use Rattle.named_equations.specs.Existence.{all_variables}
use Rattle.row_problem.specs.Sizes.{column_count, inequality_count}
use Rattle.result_tables.specs.declared.attempts.Begun.TheVariants.{FromNothing}
use Rattle.solve_command.specs.declared.solve.Shown.TheVariants.{Summary}
use Rattle.solve_command.specs.declared.solve.Wanted.{Wanted}
use Rattle.command_answers.specs.declared.status.Status.{Status}
use Rattle.command_answers.specs.MadeBooks.{HasNoRows}
use Rattle.command_answers.specs.MadeRows.{IsMadeFor}
use Rattle.command_words.specs.declared.command.SolveMethod.TheVariants.{Exact}
use Rattle.solve_command.specs.Solve.{DueForSized}

-- ---- lines

-- the number that a model was made of
abbrev pub made_line : ℕ → List ℕ
made_line size = line (codes "made " ++ decimal size)

-- how many equations and variables it has, and how many inequalities and columns the linear program that is solved
abbrev pub counts_text : List Row → List Var → List ℕ
counts_text rows vars =
    line (codes "equations " ++ decimal (length rows)) ++ line (codes "variables " ++ decimal (length vars))
    ++ line (codes "inequalities " ++ decimal (inequality_count rows)) ++ line (codes "columns " ++ decimal (column_count vars))

-- ---- what is due

-- the options that `solve` has by default: a gap of 0, 20,000 pivots, 6 decimal places, and the exact method
abbrev pub default_pivots : ℕ
default_pivots = 20000

abbrev pub default_places : ℕ
default_places = 6

abbrev pub default_wanted : Wanted
default_wanted = record { gap = 0; pivots = default_pivots; show = Summary; method = Exact; begun = FromNothing }

-- what `solve` comes to over the rows
abbrev pub DueForDefaults : ℕ → Data → List Row → ℕ → Status → List ℕ → Type 0
DueForDefaults places d rows rounded status text = DueForSized places d rows default_wanted rounded status text

-- over the rows: the counts, and then that
abbrev pub DueAfterCounts : ℕ → Data → List Row → ℕ → Status → List ℕ → Type 0
DueAfterCounts places d rows rounded status text =
    (rest : List ℕ) × DueForDefaults places d rows rounded status rest × (text ≡ counts_text rows (all_variables d) ++ rest)

-- What is due over the data of a model that was made.
abbrev pub DueForSummary : ℕ → ℕ → Data → Status → List ℕ → Type 0
DueForSummary places rounded d status text =
    IsMadeFor places d (λ rows. DueAfterCounts places d rows rounded status text) ⊎ HasNoRows places d status text
