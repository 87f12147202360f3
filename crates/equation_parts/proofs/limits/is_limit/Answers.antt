-- A value is -1 exactly where its numerator is the negative of its denominator.
use Rattle.exact_num.specs.Value.{value_of}
use Rattle.equation_parts.proofs.ValueLaws.{limit-coded}
use Rattle.equation_parts.proofs.limits.is_limit.Goals as goal

pub returns : goal.returns
returns c z is = limit-coded z (value_of c.args.value) is c.args.value.positive c.args.value.num_fits c.args.value.den_fits
