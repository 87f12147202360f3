use Rattle.value_millionths.proofs.OutwardLaws.{down-below, up-above}
use Rattle.value_millionths.proofs.laws.outward_laws.Goals as goal

pub returns : goal.returns
returns c = record { below = down-below; above = up-above }
