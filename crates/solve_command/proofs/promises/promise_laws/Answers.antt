use Rattle.solve_command.proofs.PromisedPrices.{prices-promised}
use Rattle.solve_command.proofs.promises.promise_laws.Goals as goal

pub returns : goal.returns
returns c = record { prices = prices-promised c.price_laws.ensures.promised }
