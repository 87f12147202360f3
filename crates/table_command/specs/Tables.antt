-- What `table` says over accepted data: that no table has the name; that the rows can't be made, or what `check` says of the proof over them, where it doesn't
-- accept it; or the table, of the plan that the proof has or of its multipliers.
use Rattle.std.specs.Prelude.{◌≡◌, ℕ, Bool, true, false, List, ◌++◌, ◌⊎◌, None, Some, codes}
use Rattle.model_sets.specs.Data.{Data}
use Rattle.mps_writer.specs.MpsText.{line}
use Rattle.plan_tables.specs.declared.shown.NumberForm.{NumberForm}
use Rattle.plan_tables.specs.declared.shown.NumberForm.TheVariants.{Decimals, Fractions}
use Rattle.row_core.specs.declared.Row.{Row}
use Rattle.proof_files.specs.declared.proof.Proof.{Proof}
use Rattle.proof_files.specs.declared.proof.Proof.TheVariants.{Optimum, Refutation, Descent}
use Rattle.command_answers.specs.ShownProofs.{DueForShown}
use Rattle.command_answers.specs.declared.status.Status.{Status}
use Rattle.command_answers.specs.declared.status.Status.TheVariants.{Done, Infeasible, Unbounded, Refused}
use Rattle.command_answers.specs.declared.status.Refusal.TheVariants.{UnknownTable}
use Rattle.table_command.specs.declared.shown.Shown.{Shown}
use Rattle.table_command.specs.ShownTables.{shown_named, shown_text}

-- the form of numbers: fractions where the words ask for exact ones
abbrev pub form_of : (exact : Bool) → NumberForm
form_of false = Decimals
form_of true = Fractions

-- ---- the name

abbrev pub unknown_table_line : List ℕ → List ℕ
unknown_table_line name = line (codes "refused unknown table " ++ name)

-- no table has the name
pub record HasNoTable (d : Data) (name : List ℕ) (status : Status) (text : List ℕ) : Type 0 where
  pub unknown : shown_named d.second name ≡ None
  pub status_is : status ≡ Refused UnknownTable
  pub line_is : text ≡ unknown_table_line name

-- ---- the proof, by what `check` is due to say of it over rows

-- of an optimum the table of its plan, or of its multipliers; what is no optimum has no table, and its line says what it shows
abbrev pub ShowsProof : ℕ → Data → List Row → Shown → NumberForm → Proof → Status → List ℕ → Type 0
ShowsProof places d rows shown form (Optimum plan multipliers) status text = (status ≡ Done) × (text ≡ shown_text form places d rows plan multipliers shown)
ShowsProof places d rows shown form (Refutation multipliers) status text = (status ≡ Infeasible) × (text ≡ line (codes "accepted infeasible"))
ShowsProof places d rows shown form (Descent plan direction) status text = (status ≡ Unbounded) × (text ≡ line (codes "accepted unbounded"))

-- what is due of a table that there is
abbrev pub DueForKnown : ℕ → (List Row → Status → List ℕ → Type 0) → List ℕ → Shown → NumberForm → Data → Status → List ℕ → Type 0
DueForKnown places Checked bytes shown form d = DueForShown places Checked bytes (λ rows said. ShowsProof places d rows shown form) d

-- What is due over these data, with written factors of so many decimal places, where `Checked` has what `check` is due to say of the proof over rows of the data,
-- for the bytes of its file, the name of a table and the form of its numbers.
abbrev pub DueForTable : ℕ → (List Row → Status → List ℕ → Type 0) → List ℕ → List ℕ → NumberForm → Data → Status → List ℕ → Type 0
DueForTable places Checked bytes name form d status text =
    HasNoTable d name status text ⊎ ((shown : Shown) × (shown_named d.second name ≡ Some shown) × DueForKnown places Checked bytes shown form d status text)
