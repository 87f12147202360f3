-- The numerator times what the denominator lacks to a billion is the number of billionths.
use Rattle.data_warnings.proofs.Common.{ℤ, pos, Option, ap, ◌∙◌, sym, subst, FitsSigned, to_z, of_z, w128, unwrap_or, FitsSigned-from_InRange, IsWithinLimit, value_at}
use Rattle.model_sets.specs.Params.{range_of}
use Rattle.param_tables.specs.Positions.{names_at}
use Rattle.data_warnings.proofs.Billionths.{in_range, value-back, value-computed, value-of_given}
use Rattle.data_warnings.proofs.values.value.Goals as goal

pub overflow_mul-result : goal.overflow_mul-result
overflow_mul-result c =
    let d = c.args.model.now.facts in
    let given : Option ℤ = value_at d c.args.param (names_at d.sets c.args.param c.args.index.now) in
    let num = c.at-value.result.num in
    let den = c.at-value.result.den in
    let value = value-of_given given num den (range_of c.args.param) c.at-value.ensures.amount c.at-value.result.positive c.at-value.ensures.given in
    let z : ℤ = unwrap_or given (pos 0) in
    subst (λ n. FitsSigned w128 n) (sym (value-computed z num den c.at-value.result.num_fits c.at-value.result.den_fits value)) (FitsSigned-from_InRange _ (in_range z value.within))

pub returns-clause-value : goal.returns-clause-value
returns-clause-value c =
    let d = c.args.model.now.facts in
    let given : Option ℤ = value_at d c.args.param (names_at d.sets c.args.param c.args.index.now) in
    let num = c.at-value.result.num in
    let den = c.at-value.result.den in
    let value = value-of_given given num den (range_of c.args.param) c.at-value.ensures.amount c.at-value.result.positive c.at-value.ensures.given in
    let z : ℤ = unwrap_or given (pos 0) in
    ap (λ n. to_z w128 (of_z w128 n)) (value-computed z num den c.at-value.result.num_fits c.at-value.result.den_fits value) ∙ value-back z num den value

pub returns-clause-within : goal.returns-clause-within
returns-clause-within c =
    let d = c.args.model.now.facts in
    let given : Option ℤ = value_at d c.args.param (names_at d.sets c.args.param c.args.index.now) in
    let num = c.at-value.result.num in
    let den = c.at-value.result.den in
    let value = value-of_given given num den (range_of c.args.param) c.at-value.ensures.amount c.at-value.result.positive c.at-value.ensures.given in
    let z : ℤ = unwrap_or given (pos 0) in
    subst IsWithinLimit
    (sym (ap (λ n. to_z w128 (of_z w128 n)) (value-computed z num den c.at-value.result.num_fits c.at-value.result.den_fits value) ∙ value-back z num den value)) value.within
