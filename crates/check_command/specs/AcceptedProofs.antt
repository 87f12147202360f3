-- A proof that `check` accepts over the rows of the data, as its file tells it; or what `check` says where it doesn't. For commands that show something of a proof.
use Rattle.std.specs.Prelude.{◌≢◌, ℕ, List, Result, Ok, Err}
use Rattle.model_sets.specs.Data.{Data}
use Rattle.named_equations.specs.Existence.{all_variables}
use Rattle.named_equations.specs.Instances.{instances}
use Rattle.plan_files.specs.Files.{records_of}
use Rattle.proof_files.specs.PlansWithin.{HasPlanWithin}
use Rattle.proof_files.specs.Proofs.{IsProof}
use Rattle.command_answers.specs.declared.answer.Answer.{Answer}
use Rattle.command_answers.specs.declared.proved.AcceptedProof.{AcceptedProof}
use Rattle.command_answers.specs.declared.status.Status.{Status}
use Rattle.command_answers.specs.declared.status.Status.TheVariants.{Done}
use Rattle.command_answers.specs.ShownProofs.{HasWorth}
use Rattle.row_core.specs.declared.Row.{Row}
use Rattle.check_command.specs.CheckProof.{DueForProofFile}

-- over these rows the file tells the proof, and `check` is due to accept it and to say this; its plan is one of the sets, and it is worth so much
pub record AcceptsProof (places : ℕ) (bytes : List ℕ) (gap : ℕ) (d : Data) (rows : List Row) (accepted : AcceptedProof) : Type 0 where
  pub due : DueForProofFile places d rows bytes gap Done accepted.said.items
  pub told : IsProof d.sets (all_variables d) (instances d) (records_of bytes) accepted.proof
  pub within : HasPlanWithin d.sets accepted.proof
  pub worth : HasWorth d rows accepted.proof accepted.worth

-- over these rows `check` is due to answer so, and doesn't accept
pub record AnswersProof (places : ℕ) (bytes : List ℕ) (gap : ℕ) (d : Data) (rows : List Row) (status : Status) (text : List ℕ) : Type 0 where
  pub due : DueForProofFile places d rows bytes gap status text
  pub not_done : status ≢ Done

-- ---- one of the two

abbrev pub TellsProof : ℕ → List ℕ → ℕ → Data → List Row → Result AcceptedProof Answer → Type 0
TellsProof places bytes gap d rows (Ok accepted) = AcceptsProof places bytes gap d rows accepted
TellsProof places bytes gap d rows (Err answer) = AnswersProof places bytes gap d rows answer.status answer.text.items
