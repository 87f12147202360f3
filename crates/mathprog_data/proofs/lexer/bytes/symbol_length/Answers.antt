use Rattle.mathprog_data.proofs.Common.{arith, ◌∙◌, sym, prefix_len-drop_yes, prefix_len-drop_no, prefix_len-drop_all, is_symbol_byte}
use Rattle.mathprog_data.proofs.lexer.bytes.symbol_length.Goals as goal

pub returns-then-not-is_symbol_byte-clause-count : goal.returns-then-not-is_symbol_byte-clause-count
returns-then-not-is_symbol_byte-clause-count c =
    let none = prefix_len-drop_no is_symbol_byte c.args.text.now c.loop-i.i 0 c.loop-i-test.true (sym c.is_symbol_byte.ensures ∙ c.if-not-is_symbol_byte.true) in
    let so_far = c.loop-i.invariant in
    omega arith

pub loop-i-preserved : goal.loop-i-preserved
loop-i-preserved c =
    let more = prefix_len-drop_yes is_symbol_byte c.args.text.now c.loop-i.i 0 c.loop-i-test.true (sym c.is_symbol_byte.ensures ∙ c.if-not-is_symbol_byte.false) in
    let so_far = c.loop-i.invariant in
    omega arith

pub returns-clause-count : goal.returns-clause-count
returns-clause-count c =
    let none = prefix_len-drop_all is_symbol_byte c.args.text.now c.loop-i.i c.loop-i-test.false in
    let so_far = c.loop-i.invariant in
    omega arith
