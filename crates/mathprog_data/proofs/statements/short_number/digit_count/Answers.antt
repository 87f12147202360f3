use Rattle.mathprog_data.proofs.Common.{arith, ◌∙◌, sym, is_ascii_digit, prefix_len-drop_yes, prefix_len-drop_no, prefix_len-drop_all}
use Rattle.mathprog_data.proofs.statements.short_number.digit_count.Goals as goal

pub returns-then-not-is_ascii_digit-clause-count : goal.returns-then-not-is_ascii_digit-clause-count
returns-then-not-is_ascii_digit-clause-count c =
    let none = prefix_len-drop_no is_ascii_digit c.args.text.now c.loop-i.i 0 c.loop-i-test.true (sym c.is_ascii_digit.ensures.value ∙ c.if-not-is_ascii_digit.true) in
    let so_far = c.loop-i.invariant in
    omega arith

pub loop-i-preserved : goal.loop-i-preserved
loop-i-preserved c =
    let more = prefix_len-drop_yes is_ascii_digit c.args.text.now c.loop-i.i 0 c.loop-i-test.true (sym c.is_ascii_digit.ensures.value ∙ c.if-not-is_ascii_digit.false) in
    let so_far = c.loop-i.invariant in
    omega arith

pub returns-clause-count : goal.returns-clause-count
returns-clause-count c =
    let none = prefix_len-drop_all is_ascii_digit c.args.text.now c.loop-i.i c.loop-i-test.false in
    let so_far = c.loop-i.invariant in
    omega arith
