-- What is due of a command that shows something of a proof where `check` accepts it: what it shows, or what `check` says where it doesn't; and what an accepted
-- proof is worth.
use Rattle.std.specs.Prelude.{◌≡◌, ◌≢◌, ℕ, List, ◌⊎◌, Option, Some, None, ⊤}
use Rattle.exact_num.specs.Value.{value_of}
use Rattle.model_sets.specs.Data.{Data}
use Rattle.named_equations.specs.Existence.{all_variables}
use Rattle.named_equations.specs.Instances.{instances}
use Rattle.plan_files.specs.Files.{records_of}
use Rattle.proof_files.specs.declared.proof.Proof.{Proof}
use Rattle.proof_files.specs.declared.proof.Proof.TheVariants.{Optimum, Refutation, Descent}
use Rattle.proof_files.specs.Proofs.{IsProof}
use Rattle.row_core.specs.declared.Row.{Row}
use Rattle.certified_answers.specs.Worth.{multiplier_bound, plan_cost}
use Rattle.command_answers.specs.MadeBooks.{HasNoRows}
use Rattle.command_answers.specs.MadeRows.{IsMadeFor}
use Rattle.command_answers.specs.declared.proved.Worth.{Worth}
use Rattle.command_answers.specs.declared.status.Status.{Status}
use Rattle.command_answers.specs.declared.status.Status.TheVariants.{Done}

-- ---- its worth

-- what the plan of an optimum costs, and what its multipliers sum up to over the rows; nothing is said of other proofs
abbrev pub HasWorth : Data → List Row → Proof → Option Worth → Type 0
HasWorth d rows (Optimum plan multipliers) None = ⊥
HasWorth d rows (Optimum plan multipliers) (Some worth) =
    (value_of worth.cost ≡ plan_cost (all_variables d) plan) × (value_of worth.bound ≡ multiplier_bound rows multipliers)
HasWorth d rows (Refutation multipliers) worth = ⊤
HasWorth d rows (Descent plan direction) worth = ⊤

-- ---- what is due, where `Checked` has what `check` is due to say, and `Shows` what is shown of a proof of which it says so

-- `check` doesn't accept the proof, and this is what it says
pub record IsAsChecked (Checked : Status → List ℕ → Type 0) (status : Status) (text : List ℕ) : Type 0 where
  pub checked : Checked status text
  pub not_done : status ≢ Done

-- it accepts the proof that the file tells, and this is shown
pub record IsShown (Checked : Status → List ℕ → Type 0) (bytes : List ℕ) (Shows : List ℕ → Proof → Status → List ℕ → Type 0) (d : Data) (status : Status) (text : List ℕ) : Type 0 where
  pub said : List ℕ
  pub accepted : Checked Done said
  pub proof : Proof
  pub told : IsProof d.sets (all_variables d) (instances d) (records_of bytes) proof
  pub shows : Shows said proof status text

abbrev pub DueOverRows : (Status → List ℕ → Type 0) → List ℕ → (List ℕ → Proof → Status → List ℕ → Type 0) → Data → Status → List ℕ → Type 0
DueOverRows Checked bytes Shows d status text = IsAsChecked Checked status text ⊎ IsShown Checked bytes Shows d status text

-- What is due for the bytes of the file of a proof over these data, with written factors of so many decimal places: that rows of the data can't be made, or
-- what is due over them.
abbrev pub DueForShown : ℕ → (List Row → Status → List ℕ → Type 0) → List ℕ → (List Row → List ℕ → Proof → Status → List ℕ → Type 0) → Data → Status → List ℕ → Type 0
DueForShown places Checked bytes Shows d status text =
    IsMadeFor places d (λ rows. DueOverRows (Checked rows) bytes (Shows rows) d status text) ⊎ HasNoRows places d status text
