-- The numerator times what the denominator lacks to a billion is the number of billionths.
use Rattle.equation_parts.proofs.Common.{ℤ, pos, Option, ap, ◌∙◌, sym, subst, FitsSigned, to_z, of_z, w128, ◌≤ℤ◌, unwrap_or, FitsSigned-from_InRange, value_at, range_of, names_at}
use Rattle.equation_parts.proofs.Rates.{rate-back, rate-computed, rate-fits, rate-of_given}
use Rattle.equation_parts.proofs.whole_numbers.billionths.Goals as goal

pub overflow_mul-result : goal.overflow_mul-result
overflow_mul-result c =
    let d = c.args.model.now.facts in
    let given : Option ℤ = value_at d c.args.param (names_at d.sets c.args.param c.args.index.now) in
    let num = c.at-value.result.num in
    let den = c.at-value.result.den in
    let rate = rate-of_given given num den (range_of c.args.param) c.at-value.ensures.amount c.at-value.result.positive c.requires.range c.at-value.ensures.given in
    let z : ℤ = unwrap_or given (pos 0) in
    subst (λ n. FitsSigned w128 n) (sym (rate-computed z num den c.at-value.result.num_fits c.at-value.result.den_fits rate)) (FitsSigned-from_InRange _ (rate-fits z num den rate))

pub returns : goal.returns
returns c =
    let d = c.args.model.now.facts in
    let given : Option ℤ = value_at d c.args.param (names_at d.sets c.args.param c.args.index.now) in
    let num = c.at-value.result.num in
    let den = c.at-value.result.den in
    let rate = rate-of_given given num den (range_of c.args.param) c.at-value.ensures.amount c.at-value.result.positive c.requires.range c.at-value.ensures.given in
    let z : ℤ = unwrap_or given (pos 0) in
    let is = ap (λ n. to_z w128 (of_z w128 n)) (rate-computed z num den c.at-value.result.num_fits c.at-value.result.den_fits rate) ∙ rate-back z num den rate in
    record { least = subst (λ n. pos 0 ≤ℤ n) (sym is) rate.least; most = subst (λ n. n ≤ℤ pos 1000000000) (sym is) rate.most; exact = is }
