use Rattle.plan_compare.specs.GreatestFirst.{size_of_change}
use Rattle.plan_compare.proofs.OrderLaws.{falls, same}
use Rattle.plan_compare.proofs.laws.order_laws.Goals as goal

pub returns : goal.returns
returns c = record { falls = falls size_of_change; same = same size_of_change }
