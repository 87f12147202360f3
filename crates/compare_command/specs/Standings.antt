-- What a proof has to be compared. Only private functions cite these.
use Rattle.std.specs.Prelude.{◌≡◌, List}
use Rattle.model_sets.specs.Data.{Data}
use Rattle.row_core.specs.declared.Row.{Row}
use Rattle.proof_files.specs.declared.proof.Proof.{Proof}
use Rattle.proof_files.specs.declared.proof.Proof.TheVariants.{Optimum, Refutation, Descent}
use Rattle.command_answers.specs.declared.status.Status.TheVariants.{Infeasible, Unbounded}
use Rattle.compare_command.specs.declared.standing.Standing.{Standing}
use Rattle.compare_command.specs.declared.standing.Standing.TheVariants.{Planned, Planless}
use Rattle.compare_command.specs.Compared.{IsScenario}

-- an optimum has its plan, and what is none has the status that says so
abbrev pub StandsAs : Data → List Row → Proof → Standing → Type 0
StandsAs d rows (Optimum plan multipliers) (Planned scenario) = IsScenario d rows plan multipliers scenario
StandsAs d rows (Optimum plan multipliers) (Planless status) = ⊥
StandsAs d rows (Refutation multipliers) (Planned scenario) = ⊥
StandsAs d rows (Refutation multipliers) (Planless status) = status ≡ Infeasible
StandsAs d rows (Descent plan direction) (Planned scenario) = ⊥
StandsAs d rows (Descent plan direction) (Planless status) = status ≡ Unbounded
