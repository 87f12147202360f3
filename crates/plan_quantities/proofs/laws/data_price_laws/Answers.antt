use Rattle.plan_quantities.proofs.DataPriceLaws.{prices-over_data}
use Rattle.plan_quantities.proofs.laws.data_price_laws.Goals as goal

pub returns : goal.returns
returns c = prices-over_data
