use Rattle.exact_num.proofs.OrderLaws.{top_zero}
use Rattle.exact_num.proofs.RationalLaws.{lowest-cross, lowest-IsLowest, lowest_unique}
use Rattle.exact_num.proofs.laws.value_laws.Goals as goal

pub returns-clause-quotient : goal.returns-clause-quotient
returns-clause-quotient c = lowest-cross

pub returns-clause-lowest_terms : goal.returns-clause-lowest_terms
returns-clause-lowest_terms c = lowest-IsLowest

pub returns-clause-one_pair : goal.returns-clause-one_pair
returns-clause-one_pair c = lowest_unique

pub returns-clause-zero : goal.returns-clause-zero
returns-clause-zero c = top_zero
