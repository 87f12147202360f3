-- The numerator of a method is its number.
use Rattle.equation_parts.proofs.Common.{ℤ, [], ◌∷◌, Option, ap, ◌∙◌, rules, unsigned_abs, value_of, back_in_range, value_at, DEPRECIATION_METHOD, region_name}
use Rattle.equation_parts.proofs.WholeNumbers.{method-given}
use Rattle.equation_parts.proofs.whole_numbers.depreciation_method.Goals as goal

pub overflow_cast-result : goal.overflow_cast-result
overflow_cast-result c =
    let d = c.args.model.now.facts in
    let given : Option ℤ = value_at d DEPRECIATION_METHOD (region_name d c.args.r ∷ []) in
    let method = method-given given (value_of c.at.result) c.at.ensures.amount c.at.ensures.given in
    let short = method.short in
    rw (back_in_range c.at.result.num c.at.result.num_fits, method.top) (search rules)

pub returns : goal.returns
returns c =
    let d = c.args.model.now.facts in
    let given : Option ℤ = value_at d DEPRECIATION_METHOD (region_name d c.args.r ∷ []) in
    let method = method-given given (value_of c.at.result) c.at.ensures.amount c.at.ensures.given in
    ap unsigned_abs (back_in_range c.at.result.num c.at.result.num_fits ∙ method.top) ∙ method.is
