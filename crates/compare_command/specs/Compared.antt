-- What is answered of the proofs of two scenarios that `check` accepts: how their plans differ, as text or as a page, or what `check` says of each, where there are no two plans.
use Rattle.std.specs.Prelude.{◌≡◌, ℕ, List, ◌++◌, codes, ⊤}
use Rattle.exact_num.specs.Rational.{Rational}
use Rattle.exact_num.specs.Value.{value_of}
use Rattle.model_sets.specs.Data.{Data}
use Rattle.model_sets.specs.Members.{SetLists}
use Rattle.mps_writer.specs.MpsText.{line}
use Rattle.row_core.specs.declared.Row.{Row}
use Rattle.row_core.specs.declared.RowName.{RowName}
use Rattle.row_core.specs.declared.Var.{Var}
use Rattle.named_equations.specs.Existence.{all_variables}
use Rattle.proof_files.specs.declared.proof.Proof.{Proof}
use Rattle.proof_files.specs.declared.proof.Proof.TheVariants.{Optimum, Refutation, Descent}
use Rattle.certified_answers.specs.Worth.{multiplier_bound, plan_cost}
use Rattle.command_answers.specs.declared.proved.AcceptedProof.{AcceptedProof}
use Rattle.command_answers.specs.declared.status.Status.{Status}
use Rattle.command_answers.specs.declared.status.Status.TheVariants.{Done, Infeasible, Unbounded}
use Rattle.command_answers.specs.ShownProofs.{HasWorth}
use Rattle.command_words.specs.declared.command.CompareShow.{CompareShow}
use Rattle.command_words.specs.declared.command.CompareShow.TheVariants.{Page, Text}
use Rattle.page_tables.specs.PageTables.{proof_tables}
use Rattle.plan_tables.specs.declared.shown.NumberForm.TheVariants.{Decimals}
use Rattle.result_pages.specs.Pages.{Part, Title, compare_page}
use Rattle.plan_compare.specs.declared.scenario.Scenario.{Scenario}
use Rattle.plan_compare.specs.Comparisons.{compared_text, head_of}
use Rattle.compare_command.specs.declared.scenarios.Which.{Which}
use Rattle.compare_command.specs.declared.scenarios.Which.TheVariants.{First, Second}

-- ---- the scenarios

-- the line that says which files are spoken of: files count from 1, in the order of the words
abbrev pub files_line : Which → List ℕ
files_line First = line (codes "files 1 2")
files_line Second = line (codes "files 3 4")

-- a scenario whose proof `check` accepts over rows of its data: it says so
pub record Judged : Type 0 where
  pub data_of : Data
  pub rows : List Row
  pub proof : Proof
  pub said : List ℕ

-- these sets, this proof, what it is worth and what `check` says of it are of the scenario
pub record IsOf (judged : Judged) (sets : SetLists) (accepted : AcceptedProof) : Type 0 where
  pub sets_are : sets ≡ judged.data_of.sets
  pub proof_is : accepted.proof ≡ judged.proof
  pub said_is : accepted.said.items ≡ judged.said
  pub worth : HasWorth judged.data_of judged.rows accepted.proof accepted.worth

-- the tables that the page of a scenario is drawn from, with written factors of so many decimal places
abbrev pub tables_of : ℕ → Judged → List ℕ
tables_of places judged = proof_tables Decimals places judged.data_of judged.rows judged.proof

-- these are the tables of a proof over rows of the data, where a page is written
abbrev pub AreTablesFor : CompareShow → ℕ → Data → List Row → Proof → List ℕ → Type 0
AreTablesFor Text places d rows proof tables = ⊤
AreTablesFor Page places d rows proof tables = tables ≡ proof_tables Decimals places d rows proof

-- what a page shows of a scenario whose data have this name and these changes
abbrev pub part_of : ℕ → Title → Judged → Part
part_of places title judged = record { title = title; said = judged.said; tables = tables_of places judged }

-- how a comparison is written: with written factors of so many decimal places, and with the names and the changes of both data files
pub record Written : Type 0 where
  pub show : CompareShow
  pub places : ℕ
  pub title : Title
  pub title2 : Title

-- ---- two plans

-- the scenario that is compared has the sets of the data, the plan and its cost, and the bound of the multipliers
pub record IsScenario (d : Data) (rows : List Row) (plan : List (Var × Rational)) (multipliers : List (RowName × Rational)) (scenario : Scenario) : Type 0 where
  pub sets_are : scenario.sets.now ≡ d.sets
  pub plan_is : scenario.plan.now ≡ plan
  pub cost_is : value_of scenario.cost ≡ plan_cost (all_variables d) plan
  pub bound_is : value_of scenario.bound ≡ multiplier_bound rows multipliers

-- what is written of how two scenarios differ: the text, or a page of both and of its first lines
abbrev pub Shows : CompareShow → Part → Part → Scenario → Scenario → List ℕ → Type 0
Shows Text part part2 first second text = text ≡ compared_text first second
Shows Page part part2 first second text = text ≡ compare_page part part2 (head_of first second)

-- it is written of two such scenarios, wherever they lie in memory
pub record IsComparison (written : Written) (one two : Judged) (plan : List (Var × Rational)) (multipliers : List (RowName × Rational)) (plan2 : List (Var × Rational)) (multipliers2 : List (RowName × Rational))
    (status : Status) (text : List ℕ) : Type 0 where
  pub first : Scenario
  pub second : Scenario
  pub is_first : IsScenario one.data_of one.rows plan multipliers first
  pub is_second : IsScenario two.data_of two.rows plan2 multipliers2 second
  pub status_is : status ≡ Done
  pub shows : Shows written.show (part_of written.places written.title one) (part_of written.places written.title2 two) first second text

-- ---- no two plans

-- the status by what a proof shows
abbrev pub status_of : Proof → Status
status_of (Optimum plan multipliers) = Done
status_of (Refutation multipliers) = Infeasible
status_of (Descent plan direction) = Unbounded

-- that of the first proof which shows no optimum
abbrev pub status_of_both : Proof → Proof → Status
status_of_both (Optimum plan multipliers) second = status_of second
status_of_both (Refutation multipliers) second = Infeasible
status_of_both (Descent plan direction) second = Unbounded

-- a line that says so, and what `check` says of each scenario after the line of its files
abbrev pub not_compared_text : List ℕ → List ℕ → List ℕ
not_compared_text said said2 = line (codes "not compared") ++ ((files_line First ++ said) ++ (files_line Second ++ said2))

abbrev pub IsNotCompared : Proof → Proof → List ℕ → List ℕ → Status → List ℕ → Type 0
IsNotCompared proof proof2 said said2 status text = (status ≡ status_of_both proof proof2) × (text ≡ not_compared_text said said2)

-- ---- one of the two

abbrev pub ComparesProofs : Written → Proof → Proof → Judged → Judged → Status → List ℕ → Type 0
ComparesProofs written (Optimum plan multipliers) (Optimum plan2 multipliers2) one two status text = IsComparison written one two plan multipliers plan2 multipliers2 status text
ComparesProofs written proof proof2 one two status text = IsNotCompared proof proof2 one.said two.said status text

-- what is answered of two scenarios
abbrev pub Compares : Written → Judged → Judged → Status → List ℕ → Type 0
Compares written one two status text = ComparesProofs written one.proof two.proof one two status text
