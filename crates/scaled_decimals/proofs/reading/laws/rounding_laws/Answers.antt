use Rattle.scaled_decimals.proofs.DigitLemmas.{number-append}
use Rattle.scaled_decimals.proofs.RatioLemmas.{nearest_above, nearest_below, nearest-whole}
use Rattle.scaled_decimals.proofs.reading.laws.rounding_laws.Goals as goal

pub returns-clause-joined : goal.returns-clause-joined
returns-clause-joined c = number-append

pub returns-clause-above : goal.returns-clause-above
returns-clause-above c = nearest_above

pub returns-clause-below : goal.returns-clause-below
returns-clause-below c = nearest_below

pub returns-clause-exact : goal.returns-clause-exact
returns-clause-exact c = nearest-whole
