use Rattle.plan_quantities.proofs.PromisedPrices.{prices-promised}
use Rattle.plan_quantities.proofs.laws.table_laws.Goals as goal

pub returns : goal.returns
returns c = prices-promised
