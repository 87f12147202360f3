use Rattle.discount_factors.proofs.Common.{◌≡◌, ◌+◌, ◌*◌, ◌/◌, ◌^◌, suc, sym, ap, ◌∙◌, arith, discounted}
use Rattle.discount_factors.proofs.ValueLaws.{discounted-first, discounted-more}
use Rattle.discount_factors.proofs.values.discounted_value.Goals as goal

pub loop-init : goal.loop-init
loop-init c = sym (discounted-first c.args.rate)

pub loop-preserved : goal.loop-preserved
loop-preserved c =
    let rate = c.args.rate in
    let more : suc c.loop.counter ≡ c.loop.counter + 1 = omega arith in
    c.one_year_later-value.ensures ∙ ap (λ k. k * 10 ^ 9 / (10 ^ 9 + rate)) c.loop.invariant ∙ sym (discounted-more rate c.loop.counter) ∙ ap (discounted rate) more
