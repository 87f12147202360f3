use Rattle.plan_quantities.proofs.PriceLaws.{more-less, row-price-holds, row-promise-holds}
use Rattle.plan_quantities.proofs.laws.row_price_laws.Goals as goal

pub returns : goal.returns
returns c = record { price = row-price-holds; promised = row-promise-holds; fuel = more-less }
