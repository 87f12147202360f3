-- What `check` says of the file in which `solve` writes what proves its end.
use Rattle.std.specs.Prelude.{◌≡◌, ◌⊎◌, ℕ, List, codes}
use Rattle.model_sets.specs.Data.{Data}
use Rattle.mps_writer.specs.MpsText.{line}
use Rattle.command_answers.specs.declared.status.Status.{Status}
use Rattle.command_answers.specs.declared.status.Status.TheVariants.{Done, Infeasible, Unbounded}
use Rattle.command_words.specs.declared.command.SolveMethod.{SolveMethod}
use Rattle.command_words.specs.declared.command.SolveShow.TheVariants.{Proof}
use Rattle.solve_command.specs.Shown.{wanted_by}
use Rattle.solve_command.specs.Solve.{DueForSolve}
use Rattle.solve_command.specs.Starts.{DueForSolveFrom}

-- `solve` is due to write this to prove its end, whether its guesses begin from nothing or from what a file holds
abbrev pub ProvesEnd : (places gap pivots : ℕ) → SolveMethod → (rounded : ℕ) → Data → Status → List ℕ → Type 0
ProvesEnd places gap pivots method rounded d end proof =
    DueForSolve places (wanted_by gap pivots Proof method) rounded d end proof ⊎ ((start : List ℕ) × DueForSolveFrom places (wanted_by gap pivots Proof method) start rounded d end proof)

-- at an end of this status: that there is a plan within the gap of its bound, that there is none, or that there are plans of any lower cost
pub record AcceptsEnd (end status : Status) (text : List ℕ) : Type 0 where
  pub solved : end ≡ Done → status ≡ Done
  pub infeasible : end ≡ Infeasible → (status ≡ Done) × (text ≡ line (codes "accepted infeasible"))
  pub unbounded : end ≡ Unbounded → (status ≡ Done) × (text ≡ line (codes "accepted unbounded"))
