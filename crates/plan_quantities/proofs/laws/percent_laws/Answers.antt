use Rattle.plan_quantities.proofs.PercentLaws.{percents-promised}
use Rattle.plan_quantities.proofs.laws.percent_laws.Goals as goal

pub returns : goal.returns
returns c = percents-promised
