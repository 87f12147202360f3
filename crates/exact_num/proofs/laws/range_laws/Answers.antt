use Rattle.exact_num.proofs.RangeLaws.{in_range-yes, InRange-from_test}
use Rattle.exact_num.proofs.StepLaws.{all_fit-append}
use Rattle.exact_num.proofs.laws.range_laws.Goals as goal

pub returns-clause-test : goal.returns-clause-test
returns-clause-test c = λ z. (InRange-from_test z, in_range-yes z)

pub returns-clause-joined : goal.returns-clause-joined
returns-clause-joined c = all_fit-append
