-- What `page` says over accepted data: that the rows can't be made, or what `check` says of the proof over them, where it doesn't accept it; or a page of what the
-- proof shows: constants around the name of the data file, what `check` says, and the tables that `table` prints under the name `page`.
use Rattle.std.specs.Prelude.{◌≡◌, ℕ, List, ◌++◌, codes, decimal}
use Rattle.model_sets.specs.Data.{Data}
use Rattle.row_core.specs.declared.Row.{Row}
use Rattle.proof_files.specs.declared.proof.Proof.{Proof}
use Rattle.proof_files.specs.declared.proof.Proof.TheVariants.{Optimum, Refutation, Descent}
use Rattle.plan_tables.specs.declared.shown.NumberForm.TheVariants.{Decimals}
use Rattle.page_tables.specs.PageTables.{proof_tables}
use Rattle.result_pages.specs.Pages.{Part, Title, plan_page}
use Rattle.command_answers.specs.ShownProofs.{DueForShown}
use Rattle.command_answers.specs.declared.status.Status.{Status}
use Rattle.command_answers.specs.declared.status.Status.TheVariants.{Done, Infeasible, Unbounded}

-- the status by what the proof shows: a plan near the least cost, that there is no plan, or that plans of any lower cost exist
abbrev pub status_of : Proof → Status
status_of (Optimum plan multipliers) = Done
status_of (Refutation multipliers) = Infeasible
status_of (Descent plan direction) = Unbounded

-- a line of a word and a number
abbrev pub count_line : List ℕ → ℕ → List ℕ
count_line word n = word ++ decimal n ++ codes "\n"

-- what is said on the page: what `check` says, how many numbers of the data were rounded when read, and how many decimal places written factors have
abbrev pub page_said : List ℕ → ℕ → ℕ → List ℕ
page_said said rounded places = said ++ count_line (codes "rounded ") rounded ++ count_line (codes "places ") places

-- what the page shows of a proof over rows of the data, of which `check` says this
abbrev pub page_part : Title → ℕ → ℕ → Data → List Row → List ℕ → Proof → Part
page_part title rounded places d rows said proof =
    record { title = title; said = page_said said rounded places; tables = proof_tables Decimals places d rows proof }

abbrev pub ShowsPage : Title → ℕ → ℕ → Data → List Row → List ℕ → Proof → Status → List ℕ → Type 0
ShowsPage title rounded places d rows said proof status text = (status ≡ status_of proof) × (text ≡ plan_page (page_part title rounded places d rows said proof))

-- What is due over these data of a file of this name and with these changes, of which so many numbers are rounded, with written factors of so many decimal places, where `Checked` has what
-- `check` is due to say of the proof over rows of the data, for the bytes of its file.
abbrev pub DueForPage : Title → ℕ → ℕ → (List Row → Status → List ℕ → Type 0) → List ℕ → Data → Status → List ℕ → Type 0
DueForPage title rounded places Checked bytes d = DueForShown places Checked bytes (λ rows. ShowsPage title rounded places d rows) d
