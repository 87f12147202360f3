use Rattle.scaled_decimals.proofs.InverseLaws.{spelled, inverse, distinct}
use Rattle.scaled_decimals.proofs.inverse.inverse_laws.Goals as goal

pub returns-clause-spelled : goal.returns-clause-spelled
returns-clause-spelled c = spelled

pub returns-clause-inverse : goal.returns-clause-inverse
returns-clause-inverse c = λ v answer h. inverse v answer h

pub returns-clause-distinct : goal.returns-clause-distinct
returns-clause-distinct c = λ v w e. distinct v w e
