-- A value has the sign of its numerator.
use Rattle.exact_num.specs.Value.{value_of}
use Rattle.equation_parts.proofs.ValueLaws.{positive-coded}
use Rattle.equation_parts.proofs.limits.is_positive.Goals as goal

pub returns : goal.returns
returns c z is = positive-coded z (value_of c.args.value) is c.args.value.num_fits
