use Rattle.row_core.specs.Order.{var_cmp, row_name_cmp}
use Rattle.certificate_checker.proofs.DenominatorLaws.{some_denominator, some_denominator_of}
use Rattle.certificate_checker.proofs.laws.denominator_laws.Goals as goal

pub returns : goal.returns
returns c = record { plans = some_denominator var_cmp; multipliers = some_denominator row_name_cmp; rationals = some_denominator_of row_name_cmp }
