use Rattle.certificate_checker.proofs.DualityLaws.{Proves-bound, weak_duality}
use Rattle.certificate_checker.proofs.laws.bound_laws.Goals as goal

pub returns : goal.returns
returns c = record { bound = Proves-bound; any_right_sides = weak_duality }
