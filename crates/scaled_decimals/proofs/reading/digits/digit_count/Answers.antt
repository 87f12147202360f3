use Rattle.scaled_decimals.proofs.Common.{arith, ◌∙◌, sym, is_ascii_digit, prefix_len-drop_yes, prefix_len-drop_no, prefix_len-drop_all}
use Rattle.scaled_decimals.proofs.reading.digits.digit_count.Goals as goal

pub returns-then-not-is_ascii_digit : goal.returns-then-not-is_ascii_digit
returns-then-not-is_ascii_digit c =
    let none = prefix_len-drop_no is_ascii_digit c.args.text.now c.loop-i.i 0 c.loop-i-test.true (sym c.is_ascii_digit.ensures.value ∙ c.if-not-is_ascii_digit.true) in
    let so_far = c.loop-i.invariant in
    omega arith

pub loop-i-preserved : goal.loop-i-preserved
loop-i-preserved c =
    let more = prefix_len-drop_yes is_ascii_digit c.args.text.now c.loop-i.i 0 c.loop-i-test.true (sym c.is_ascii_digit.ensures.value ∙ c.if-not-is_ascii_digit.false) in
    let so_far = c.loop-i.invariant in
    omega arith

pub returns : goal.returns
returns c =
    let none = prefix_len-drop_all is_ascii_digit c.args.text.now c.loop-i.i c.loop-i-test.false in
    let so_far = c.loop-i.invariant in
    omega arith
