use Rattle.osemosys_run.proofs.Common.{◌≡◌, ◌∙◌, ℕ, List, Option, Some, Ok, subst, Data}
use Rattle.std.specs.Prelude.{None}
use Rattle.command_answers.specs.Accepted.{built_of, changed_by}
use Rattle.param_tables.specs.Built.{Built}
use Rattle.param_tables.specs.Canonical.{canonical}
use Rattle.param_tables.specs.BlockData.{data_told}
use Rattle.data_changes.proofs.ScenarioLaws.{canonical_again, commute, file_canonical, idle, no_records}
use Rattle.osemosys_run.proofs.scenarios.scenario_laws.Goals as goal

pub returns-clause-header_alone : goal.returns-clause-header_alone
returns-clause-header_alone c = λ text changes header d rows is accepted.
    record { says = accepted.says; rounded = accepted.rounded; told = no_records (built_of accepted.says.blocks) changes header rows is ∙ accepted.told }

pub returns-clause-idle : goal.returns-clause-idle
returns-clause-idle c = λ source d change accepted none. idle d change (own source.changes (built_of accepted.says.blocks) (canonical_again (data_told accepted.says.blocks)) accepted.rounded d accepted.told) none
  where
    own : (changes : Option (List ℕ)) (built : Built) → canonical built.facts ≡ built.facts → (rounded : ℕ) (d : Data) → changed_by changes built ≡ Ok (record { facts = d; rounded = rounded }) → canonical d ≡ d
    own None built same rounded d told = let is : built ≡ record { facts = d; rounded = rounded } = cc told in subst (λ (b : Built). canonical b.facts ≡ b.facts) is same
    own (Some changes) built same rounded d told = file_canonical built (record { facts = d; rounded = rounded }) changes same told

pub returns-clause-either_order : goal.returns-clause-either_order
returns-clause-either_order c = commute
