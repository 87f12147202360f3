-- The numerator of a life is its number of years.
use Rattle.equation_parts.proofs.Common.{ℤ, [], ◌∷◌, Option, ap, ◌∙◌, rules, unsigned_abs, value_of, back_in_range, value_at, OPERATIONAL_LIFE, region_name, technology_name}
use Rattle.equation_parts.proofs.WholeNumbers.{life-given}
use Rattle.equation_parts.proofs.whole_numbers.operational_life.Goals as goal

pub overflow_cast-result : goal.overflow_cast-result
overflow_cast-result c =
    let d = c.args.model.now.facts in
    let given : Option ℤ = value_at d OPERATIONAL_LIFE (region_name d c.args.r ∷ technology_name d c.args.t ∷ []) in
    let life = life-given given (value_of c.at.result) c.at.ensures.amount c.at.ensures.given in
    let short = life.short in
    rw (back_in_range c.at.result.num c.at.result.num_fits, life.top) (search rules)

pub returns : goal.returns
returns c =
    let d = c.args.model.now.facts in
    let given : Option ℤ = value_at d OPERATIONAL_LIFE (region_name d c.args.r ∷ technology_name d c.args.t ∷ []) in
    let life = life-given given (value_of c.at.result) c.at.ensures.amount c.at.ensures.given in
    let some = life.some in
    let short = life.short in
    record {
      exact = ap unsigned_abs (back_in_range c.at.result.num c.at.result.num_fits ∙ life.top) ∙ life.is;
      some = rw (back_in_range c.at.result.num c.at.result.num_fits, life.top) (search rules);
      most = rw (back_in_range c.at.result.num c.at.result.num_fits, life.top) (search rules);
    }
