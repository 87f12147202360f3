-- One digit at a time, capped at each step.
use Rattle.scaled_decimals.proofs.Common.{◌^◌, ◌+◌, arith, ap, sym, ◌∙◌, get_or, drop, min, at_drop_more, at_drop_all, continued}
use Rattle.scaled_decimals.proofs.DigitLemmas.{capped-step, continued-none}
use Rattle.scaled_decimals.proofs.reading.digits.capped_number.Goals as goal

pub loop-digit-preserved : goal.loop-digit-preserved
loop-digit-preserved c =
    let rest = drop (c.loop-digit.digit-index + 1) c.args.digits.now in
    let more = at_drop_more (continued c.loop-digit.number) c.args.digits.now c.loop-digit.digit-index 0 c.loop-digit-test.true in
    let step = capped-step c.loop-digit.number (2 ^ 127) (get_or c.args.digits.now c.loop-digit.digit-index 0) rest in (
      omega (arith, c.with_digit-number.ensures),
      ap (λ n. min (continued n rest) (2 ^ 127)) c.with_digit-number.ensures ∙ step ∙ ap (λ n. min n (2 ^ 127)) (sym more) ∙ c.loop-digit.invariant.1,
    )

pub returns : goal.returns
returns c =
    let none = at_drop_all (continued c.loop-digit.number) c.args.digits.now c.loop-digit.digit-index c.loop-digit-test.false ∙ continued-none c.loop-digit.number in
    let capped = c.loop-digit.invariant.0 in
    let same = c.loop-digit.invariant.1 in
    omega arith
