use Rattle.named_equations.proofs.SameInstances.{same-instances, same-says, same-exists, same-feasible, same-cost}
use Rattle.named_equations.proofs.laws.same_data_laws.Goals as goal

pub returns-clause-instances : goal.returns-clause-instances
returns-clause-instances c = same-instances

pub returns-clause-says : goal.returns-clause-says
returns-clause-says c = same-says

pub returns-clause-exists : goal.returns-clause-exists
returns-clause-exists c = same-exists

pub returns-clause-feasible : goal.returns-clause-feasible
returns-clause-feasible c = same-feasible

pub returns-clause-cost : goal.returns-clause-cost
returns-clause-cost c = same-cost
