-- The value is 0 exactly where its numerator is.
use Rattle.exact_num.specs.Value as number
use Rattle.named_equations.specs.Parameters.{value_of}
use Rattle.param_tables.specs.Positions.{names_at}
use Rattle.equation_parts.proofs.ValueLaws.{nonzero-coded}
use Rattle.equation_parts.proofs.ratios.is_not_zero.Goals as goal

pub returns : goal.returns
returns c =
    let d = c.args.model.now.facts in
    nonzero-coded (value_of d c.args.param (names_at d.sets c.args.param c.args.index.now)) (number.value_of c.at.result) c.at.ensures.amount c.at.result.num_fits
