-- A rate is above 0 exactly where its numerator is.
use Rattle.equation_parts.proofs.Common.{[], ◌∷◌, value_of, value_at, DISCOUNT_RATE, region_name}
use Rattle.equation_parts.proofs.WholeNumbers.{rate-given}
use Rattle.equation_parts.proofs.whole_numbers.has_rate.Goals as goal

pub returns : goal.returns
returns c =
    let d = c.args.model.now.facts in
    rate-given (value_at d DISCOUNT_RATE (region_name d c.args.r ∷ [])) (value_of c.at.result) c.at.ensures.amount c.at.result.num_fits c.at.ensures.given
