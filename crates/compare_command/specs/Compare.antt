-- What `compare` says over a data file with its changes and a proof, and over another data file with its own and another proof: what `check` says of the first scenario that it doesn't
-- accept, or what is answered of both.
use Rattle.std.specs.Prelude.{◌≡◌, ◌≢◌, ℕ, List, ◌++◌, ◌⊎◌}
use Rattle.model_sets.specs.Data.{Data}
use Rattle.row_core.specs.declared.Row.{Row}
use Rattle.named_equations.specs.Existence.{all_variables}
use Rattle.named_equations.specs.Instances.{instances}
use Rattle.row_book.specs.Books.{AreRowsOf, CanBeMade}
use Rattle.plan_files.specs.Files.{records_of}
use Rattle.proof_files.specs.Proofs.{IsProof}
use Rattle.command_answers.specs.Accepted.{Accepted, Source}
use Rattle.command_answers.specs.DueForText.{DueForText}
use Rattle.command_answers.specs.MadeBooks.{HasNoRows}
use Rattle.command_answers.specs.MadeRows.{IsMadeFor}
use Rattle.command_answers.specs.declared.status.Status.{Status}
use Rattle.command_answers.specs.declared.status.Status.TheVariants.{Done}
use Rattle.compare_command.specs.declared.scenarios.Which.{Which}
use Rattle.compare_command.specs.declared.scenarios.Which.TheVariants.{First, Second}
use Rattle.compare_command.specs.Compared.{Compares, Judged, Written, files_line}

-- what `check` is due to say over rows of data, for the bytes of a proof
abbrev pub Check : Type 1
Check = Data → List Row → Status → List ℕ → Type 0

-- what it is due to say over a data file with its changes, with written factors of so many decimal places
abbrev pub DueOfCheck : ℕ → Check → Source → Status → List ℕ → Type 0
DueOfCheck places Checked source status text =
    DueForText (λ rounded d status text. IsMadeFor places d (λ rows. Checked d rows status text) ⊎ HasNoRows places d status text) source status text

-- `check` doesn't accept the scenario: its status, and which files it speaks of before what it says
pub record IsRefused (places : ℕ) (Checked : Check) (source : Source) (which : Which) (status : Status) (text : List ℕ) : Type 0 where
  pub said : List ℕ
  pub due : DueOfCheck places Checked source status said
  pub not_done : status ≢ Done
  pub text_is : text ≡ files_line which ++ said

-- it accepts the scenario: the data of the first file, with its changes, rows that are made of them, and the proof that the second file tells
pub record IsJudged (places : ℕ) (Checked : Check) (source : Source) (proof_bytes : List ℕ) (judged : Judged) : Type 0 where
  pub accepted : Accepted source judged.data_of
  pub made : CanBeMade places judged.data_of 0 (instances judged.data_of)
  pub are_rows : AreRowsOf places judged.data_of (instances judged.data_of) judged.rows
  pub told : IsProof judged.data_of.sets (all_variables judged.data_of) (instances judged.data_of) (records_of proof_bytes) judged.proof
  pub checked : Checked judged.data_of judged.rows Done judged.said

-- it accepts both, and this is answered
pub record IsOfBoth (written : Written) (Checked Checked2 : Check) (source : Source) (proof_bytes : List ℕ) (source2 : Source) (proof_bytes2 : List ℕ) (status : Status) (text : List ℕ) : Type 0 where
  pub one : Judged
  pub two : Judged
  pub first : IsJudged written.places Checked source proof_bytes one
  pub second : IsJudged written.places Checked2 source2 proof_bytes2 two
  pub compares : Compares written one two status text

-- the second scenario isn't accepted, and the first is
pub record IsSecondRefused (places : ℕ) (Checked Checked2 : Check) (source : Source) (proof_bytes : List ℕ) (source2 : Source) (status : Status) (text : List ℕ) : Type 0 where
  pub one : Judged
  pub first : IsJudged places Checked source proof_bytes one
  pub refused : IsRefused places Checked2 source2 Second status text

-- What is due where a comparison is to be written so, where `Checked` and `Checked2` have what `check` is due to say of each proof over rows of its data.
abbrev pub DueForCompare : Written → Check → Check → (source : Source) (proof_bytes : List ℕ) (source2 : Source) (proof_bytes2 : List ℕ) → Status → List ℕ → Type 0
DueForCompare written Checked Checked2 source proof_bytes source2 proof_bytes2 status text =
    IsRefused written.places Checked source First status text
    ⊎ IsSecondRefused written.places Checked Checked2 source proof_bytes source2 status text
    ⊎ IsOfBoth written Checked Checked2 source proof_bytes source2 proof_bytes2 status text
