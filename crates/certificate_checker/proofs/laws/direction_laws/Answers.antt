use Rattle.certificate_checker.proofs.DirectionLaws.{Descends-less}
use Rattle.certificate_checker.proofs.laws.direction_laws.Goals as goal

pub returns : goal.returns
returns c = Descends-less
