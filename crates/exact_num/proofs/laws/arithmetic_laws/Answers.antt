use Rattle.exact_num.proofs.ArithmeticLaws.{plus_comm, plus_assoc, times_comm, times_assoc, times-plus, minus-plus, divided-times}
use Rattle.exact_num.proofs.RationalLaws.{plus-cross, times-cross, minus-is_plus}
use Rattle.exact_num.proofs.laws.arithmetic_laws.Goals as goal

pub returns-clause-sum : goal.returns-clause-sum
returns-clause-sum c = plus-cross

pub returns-clause-product : goal.returns-clause-product
returns-clause-product c = times-cross

pub returns-clause-sum_comm : goal.returns-clause-sum_comm
returns-clause-sum_comm c = plus_comm

pub returns-clause-product_comm : goal.returns-clause-product_comm
returns-clause-product_comm c = times_comm

pub returns-clause-sum_assoc : goal.returns-clause-sum_assoc
returns-clause-sum_assoc c = plus_assoc

pub returns-clause-product_assoc : goal.returns-clause-product_assoc
returns-clause-product_assoc c = times_assoc

pub returns-clause-distributed : goal.returns-clause-distributed
returns-clause-distributed c = times-plus

pub returns-clause-difference : goal.returns-clause-difference
returns-clause-difference c = minus-is_plus

pub returns-clause-added_back : goal.returns-clause-added_back
returns-clause-added_back c = minus-plus

pub returns-clause-multiplied_back : goal.returns-clause-multiplied_back
returns-clause-multiplied_back c = divided-times
