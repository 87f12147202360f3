use Rattle.plan_quantities.proofs.PriceLaws.{balance-row, price-holds, promise-holds}
use Rattle.plan_quantities.proofs.laws.price_laws.Goals as goal

pub returns : goal.returns
returns c = record { row = balance-row; price = price-holds; promised = promise-holds }
