use Rattle.plan_quantities.proofs.CostSums.{plan-cost}
use Rattle.plan_quantities.proofs.QuantityLaws.{quantities-hold}
use Rattle.plan_quantities.proofs.laws.quantity_laws.Goals as goal

pub returns : goal.returns
returns c = record { quantities = quantities-hold; cost = plan-cost }
