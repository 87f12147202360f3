use Rattle.plan_compare.proofs.LeastCostLaws.{least-holds, lowers-holds, most-holds, raises-holds}
use Rattle.plan_compare.proofs.laws.least_cost_laws.Goals as goal

pub returns : goal.returns
returns c = record { raises = raises-holds; lowers = lowers-holds; least = least-holds; most = most-holds }
