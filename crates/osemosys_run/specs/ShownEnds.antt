-- What the texts that `solve` writes of one model say together.
use Rattle.std.specs.Prelude.{◌⊎◌, ℕ, List}
use Rattle.exact_num.specs.Rational.{Rational}
use Rattle.model_sets.specs.Data.{Data}
use Rattle.row_core.specs.declared.Row.{Row}
use Rattle.row_core.specs.declared.RowName.{RowName}
use Rattle.row_core.specs.declared.Var.{Var}
use Rattle.named_equations.specs.Existence.{all_variables}
use Rattle.named_equations.specs.Instances.{instances}
use Rattle.row_book.specs.Books.{AreRowsOf}
use Rattle.plan_files.specs.Files.{records_of}
use Rattle.proof_files.specs.declared.proof.Proof.{Proof}
use Rattle.proof_files.specs.declared.proof.Proof.TheVariants.{Optimum}
use Rattle.proof_files.specs.Proofs.{IsProof}
use Rattle.check_command.specs.CheckProof.{DueForProofFile}
use Rattle.command_answers.specs.SolvedPlans.{IsNearOptimum}
use Rattle.command_answers.specs.declared.status.Status.{Status}
use Rattle.command_answers.specs.declared.status.Status.TheVariants.{Done}
use Rattle.command_words.specs.declared.command.SolveMethod.{SolveMethod}
use Rattle.command_words.specs.declared.command.SolveShow.{SolveShow}
use Rattle.solve_command.specs.ReadBack.{HaveSameValues}
use Rattle.solve_command.specs.Shown.{wanted_by}
use Rattle.solve_command.specs.Solve.{DueForSolve}
use Rattle.solve_command.specs.Starts.{DueForSolveFrom}

-- With the gap 0 `solve` is due to write this of an optimum: by either method, with any number of pivots, whatever its guesses begin from.
pub record WritesOptimum (show : SolveShow) (places rounded : ℕ) (d : Data) (text : List ℕ) : Type 0 where
  pub pivots : ℕ
  pub method : SolveMethod
  pub due : DueForSolve places (wanted_by 0 pivots show method) rounded d Done text ⊎ ((start : List ℕ) × DueForSolveFrom places (wanted_by 0 pivots show method) start rounded d Done text)

-- The file tells a plan and multipliers over rows of the data, whose cost is within the gap of its bound: those that were found, the multipliers by their values.
pub record IsWrittenOf (places gap : ℕ) (d : Data) (file : List ℕ) (plan : List (Var × Rational)) (multipliers : List (RowName × Rational)) : Type 0 where
  pub rows : List Row
  pub found : List (RowName × Rational)
  pub cost : Rational
  pub bound : Rational
  pub are_rows : AreRowsOf places d (instances d) rows
  pub optimum : IsNearOptimum places d rows gap plan found cost bound
  pub told : IsProof d.sets (all_variables d) (instances d) (records_of file) (Optimum plan multipliers)
  pub same : HaveSameValues multipliers found

-- What is shown, over rows of the data, is of the plan and the multipliers that the file of a proof was written of, and `check` accepts it.
pub record ShowsWritten (Shows : List Row → List ℕ → Proof → Status → List ℕ → Type 0) (places gap : ℕ) (d : Data) (file : List ℕ) (status : Status) (text : List ℕ) : Type 0 where
  pub plan : List (Var × Rational)
  pub multipliers : List (RowName × Rational)
  pub written : IsWrittenOf places gap d file plan multipliers
  pub rows : List Row
  pub are_rows : AreRowsOf places d (instances d) rows
  pub said : List ℕ
  pub accepted : DueForProofFile places d rows file gap Done said
  pub shows : Shows rows said (Optimum plan multipliers) status text
