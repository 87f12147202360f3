use Rattle.scaled_decimals.proofs.TextLemmas.{IsPower-some}
use Rattle.scaled_decimals.proofs.reading.parts.power_of.Goals as goal

pub returns-then-is_numeral : goal.returns-then-is_numeral
returns-then-is_numeral c =
    let marked = c.in_ok-after_mark.ensures in
    IsPower-some c.args.text.now c.in_ok-after_mark.field-0.now marked.0 c.split_sign-lowering.result.0 c.split_sign-lowering.result.1.now marked.1
    c.split_sign-lowering.ensures.negative c.split_sign-lowering.ensures.rest (c.is_numeral.ensures.0 c.if-is_numeral.true)
