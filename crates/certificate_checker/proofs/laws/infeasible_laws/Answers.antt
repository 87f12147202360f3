use Rattle.certificate_checker.proofs.DualityLaws.{Refutes-none}
use Rattle.certificate_checker.proofs.laws.infeasible_laws.Goals as goal

pub returns : goal.returns
returns c rows vars s y h k refutes q x = Refutes-none rows vars s y q x h k refutes
