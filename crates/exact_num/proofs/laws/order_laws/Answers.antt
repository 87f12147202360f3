use Rattle.exact_num.proofs.Common.{◌∙◌, sym, minus}
use Rattle.exact_num.proofs.OrderLaws.{order_of-minus, order_of-zero, order_of-plus, order_of-times}
use Rattle.exact_num.proofs.laws.order_laws.Goals as goal

pub returns-clause-by_difference : goal.returns-clause-by_difference
returns-clause-by_difference c = λ x y p q. order_of-minus x y p q ∙ sym (order_of-zero (minus x y))

pub returns-clause-by_numerator : goal.returns-clause-by_numerator
returns-clause-by_numerator c = order_of-zero

pub returns-clause-added : goal.returns-clause-added
returns-clause-added c = order_of-plus

pub returns-clause-multiplied : goal.returns-clause-multiplied
returns-clause-multiplied c = order_of-times
