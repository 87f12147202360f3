-- Each row is found by its name.
use Rattle.result_tables.proofs.FoundLaws.{all_prices_at}
use Rattle.result_tables.proofs.laws.price_laws.Goals as goal

pub returns : goal.returns
returns c rows m ascending = all_prices_at rows m ascending
