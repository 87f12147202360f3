use Rattle.scaled_decimals.proofs.NumberReading.{numbers_are_found}
use Rattle.scaled_decimals.proofs.TextLemmas.{one_way}
use Rattle.scaled_decimals.proofs.ValueTextLemmas.{one_value_way}
use Rattle.scaled_decimals.proofs.reading.laws.spelling_laws.Goals as goal

pub returns-clause-number : goal.returns-clause-number
returns-clause-number c = one_way

pub returns-clause-value : goal.returns-clause-value
returns-clause-value c = one_value_way

pub returns-clause-found : goal.returns-clause-found
returns-clause-found c = numbers_are_found
