-- The product, and the sum after it.
use Rattle.span_finder.proofs.Common.{◌≡◌, ◌<◌, ◌^◌, ℕ, ℤ, true, false, pos, sym, ap, ap₂, ◌∙◌, arith, to_z, of_z, w128, product_formed, sum_formed, InRange, all_fit, Rational, lowest, times, value_of, back_in_range, is_ok-false, absolute, slack_of}
use Rattle.span_finder.proofs.LimitSteps.{stops-first}
use Rattle.span_finder.proofs.SlackLaws.{limit-near, limit-refused, limit-value}
use Rattle.span_finder.proofs.slack.slack_limit.Goals as goal

abbrev read : ℤ → ℤ
read z = to_z w128 (of_z w128 z)

fits_wide : (n : ℕ) → n < 2 ^ 32 → InRange (pos n)
fits_wide n h = omega arith

pub returns-in_err-more-clause-refused : goal.returns-in_err-more-clause-refused
returns-in_err-more-clause-refused c =
    let number : read c.from.result ≡ pos c.args.slack = ap read c.from.ensures ∙ back_in_range (pos c.args.slack) (fits_wide c.args.slack c.ranges.slack.fits) in
    let part : value_of c.ratio.result ≡ lowest (pos c.args.slack) (pos 1000000) = c.ratio.ensures ∙ ap (λ n. lowest n (pos 1000000)) number in
    let cost : Rational = value_of c.args.cost in
    let wide : all_fit (product_formed (lowest (pos c.args.slack) (pos 1000000)) (absolute cost)) ≡ false = ap₂ (λ a b. all_fit (product_formed a b)) (sym part) (sym c.absolute.ensures) ∙ sym c.in_err-more.ensures.refused in
    is_ok-false c.from_residual.result c.from_residual.ensures.0 ∙ sym (stops-first (product_formed (lowest (pos c.args.slack) (pos 1000000)) (absolute cost)) (sum_formed cost (slack_of cost c.args.slack)) wide)

pub returns-clause-refused : goal.returns-clause-refused
returns-clause-refused c =
    let number : read c.from.result ≡ pos c.args.slack = ap read c.from.ensures ∙ back_in_range (pos c.args.slack) (fits_wide c.args.slack c.ranges.slack.fits) in
    let part : value_of c.ratio.result ≡ lowest (pos c.args.slack) (pos 1000000) = c.ratio.ensures ∙ ap (λ n. lowest n (pos 1000000)) number in
    let fit : all_fit (product_formed (lowest (pos c.args.slack) (pos 1000000)) (absolute (value_of c.args.cost))) ≡ true = ap₂ (λ a b. all_fit (product_formed a b)) (sym part) (sym c.absolute.ensures) ∙ sym c.in_ok-more.ensures.refused in
    let is : value_of c.in_ok-more.more ≡ slack_of (value_of c.args.cost) c.args.slack = c.in_ok-more.ensures.value ∙ ap₂ times part c.absolute.ensures in
    limit-refused c.args.cost c.in_ok-more.more c.args.slack is c.add.result fit c.add.ensures.refused

pub returns-clause-limit : goal.returns-clause-limit
returns-clause-limit c =
    let number : read c.from.result ≡ pos c.args.slack = ap read c.from.ensures ∙ back_in_range (pos c.args.slack) (fits_wide c.args.slack c.ranges.slack.fits) in
    let part : value_of c.ratio.result ≡ lowest (pos c.args.slack) (pos 1000000) = c.ratio.ensures ∙ ap (λ n. lowest n (pos 1000000)) number in
    let is : value_of c.in_ok-more.more ≡ slack_of (value_of c.args.cost) c.args.slack = c.in_ok-more.ensures.value ∙ ap₂ times part c.absolute.ensures in
    limit-value c.args.cost c.in_ok-more.more c.args.slack is c.add.result c.add.ensures.value

pub returns-clause-near : goal.returns-clause-near
returns-clause-near c =
    let number : read c.from.result ≡ pos c.args.slack = ap read c.from.ensures ∙ back_in_range (pos c.args.slack) (fits_wide c.args.slack c.ranges.slack.fits) in
    let part : value_of c.ratio.result ≡ lowest (pos c.args.slack) (pos 1000000) = c.ratio.ensures ∙ ap (λ n. lowest n (pos 1000000)) number in
    let is : value_of c.in_ok-more.more ≡ slack_of (value_of c.args.cost) c.args.slack = c.in_ok-more.ensures.value ∙ ap₂ times part c.absolute.ensures in
    limit-near c.args.cost c.args.slack c.add.result (limit-value c.args.cost c.in_ok-more.more c.args.slack is c.add.result c.add.ensures.value)
