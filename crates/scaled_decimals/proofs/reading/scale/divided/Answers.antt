-- The quotient, and what is left of it.
use Rattle.scaled_decimals.proofs.Common.{◌/◌, Ok, not, sym, ap₂, ◌∙◌, back_in_range}
use Rattle.scaled_decimals.proofs.ScaleLemmas.{divided_above, divided_within, divided_up, divided_down, above_of}
use Rattle.scaled_decimals.proofs.reading.scale.divided.Goals as goal

pub returns-then-is_above : goal.returns-then-is_above
returns-then-is_above c =
    λ m half is even.
    sym (divided_above c.args.negative c.args.head m c.args.divisor half is c.requires.positive even
    (sym (c.is_above.ensures ∙ above_of (c.args.head.value / c.args.divisor) c.is_zero-exact.ensures) ∙ c.if-is_above.true))

pub returns-then-remainder-divisor : goal.returns-then-remainder-divisor
returns-then-remainder-divisor c =
    λ m half is even.
    let within = divided_within c.args.negative c.args.head m c.args.divisor half is c.requires.positive even
    (sym (c.is_above.ensures ∙ above_of (c.args.head.value / c.args.divisor) c.is_zero-exact.ensures) ∙ c.if-is_above.false) in
    ap₂ (λ z b. Ok (z, not b)) (back_in_range c.signed.result c.signed.ensures.range ∙ c.signed.ensures.value) c.is_zero-exact.ensures
    ∙ sym (divided_up c.args.negative c.args.head m c.args.divisor half is c.requires.positive even within c.if-remainder-divisor.true)

pub returns-else-remainder-divisor : goal.returns-else-remainder-divisor
returns-else-remainder-divisor c =
    λ m half is even.
    let within = divided_within c.args.negative c.args.head m c.args.divisor half is c.requires.positive even
    (sym (c.is_above.ensures ∙ above_of (c.args.head.value / c.args.divisor) c.is_zero-exact.ensures) ∙ c.if-is_above.false) in
    ap₂ (λ z b. Ok (z, not b)) (back_in_range c.signed-else-remainder-divisor.result c.signed-else-remainder-divisor.ensures.range ∙ c.signed-else-remainder-divisor.ensures.value) c.is_zero-exact.ensures
    ∙ sym (divided_down c.args.negative c.args.head m c.args.divisor half is c.requires.positive even within c.if-remainder-divisor.false)
