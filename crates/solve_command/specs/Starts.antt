-- What `solve` says over accepted data where its guesses begin from the values of a file: another solver's answer, or the plan of a similar model.
use Rattle.std.specs.Prelude.{◌≡◌, ℕ, List, ◌⊎◌, length}
use Rattle.std.specs.List.{count_by}
use Rattle.model_sets.specs.Data.{Data}
use Rattle.row_core.specs.declared.Row.{Row}
use Rattle.named_equations.specs.Existence.{all_variables}
use Rattle.result_tables.specs.declared.attempts.Begun.{Begun}
use Rattle.result_tables.specs.declared.attempts.Begun.TheVariants.{FromValues, WithoutStart}
use Rattle.solver_answers.specs.Answers.{Tells}
use Rattle.solver_answers.specs.Told.{Told, Breaks, Lacks, Gives, is_passed, is_value}
use Rattle.solve_command.specs.declared.solve.Wanted.{Wanted}
use Rattle.command_answers.specs.declared.status.Status.{Status}
use Rattle.command_answers.specs.declared.status.Status.TheVariants.{Refused}
use Rattle.command_answers.specs.declared.status.Refusal.TheVariants.{StartFile}
use Rattle.command_answers.specs.Lines.{start_fault_line}
use Rattle.command_answers.specs.MadeBooks.{HasNoRows}
use Rattle.command_answers.specs.MadeRows.{IsMadeFor}
use Rattle.solve_command.specs.Solve.{DueForRows}

-- the same is wanted, of guesses that begin so
abbrev pub begun_from : Begun → Wanted → Wanted
begun_from begun wanted = record { gap = wanted.gap; pivots = wanted.pivots; show = wanted.show; method = wanted.method; begun = begun }

-- by what the file tells: it breaks its form at a line; or guesses begin from its values, or from nothing where it lacks a plan
abbrev pub DueFrom : Told → ℕ → Data → List Row → Wanted → ℕ → Status → List ℕ → Type 0
DueFrom (Breaks number) places d rows wanted rounded status text = (status ≡ Refused (StartFile number)) × (text ≡ start_fault_line number)
DueFrom Lacks places d rows wanted rounded status text = DueForRows places d rows (begun_from WithoutStart wanted) rounded status text
DueFrom (Gives founds) places d rows wanted rounded status text =
    DueForRows places d rows (begun_from (FromValues (count_by is_value founds) (count_by is_passed founds)) wanted) rounded status text

-- the bytes of the file tell something, and that is due
abbrev pub DueForStart : ℕ → Data → List Row → Wanted → List ℕ → ℕ → Status → List ℕ → Type 0
DueForStart places d rows wanted bytes rounded status text =
    (said : Told) × Tells d.sets (all_variables d) (length rows) bytes said × DueFrom said places d rows wanted rounded status text

-- What is due over these data, for what is wanted, the bytes of the file, and so many numbers of the data that are rounded.
abbrev pub DueForSolveFrom : ℕ → Wanted → List ℕ → ℕ → Data → Status → List ℕ → Type 0
DueForSolveFrom places wanted bytes rounded d status text =
    IsMadeFor places d (λ rows. DueForStart places d rows wanted bytes rounded status text) ⊎ HasNoRows places d status text
