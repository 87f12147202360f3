-- One term after another.
use Rattle.std.proofs.Common.{◌+◌, sym, ap, ◌∙◌}
use Rattle.row_core.proofs.RepeatedLaws.{with_rest_of_all, all-begin, all-step, all-end}
use Rattle.row_core.proofs.left_side.LeftSide.add_each.Goals as goal

pub loop-i-init : goal.loop-i-init
loop-i-init g c term gives = ap (with_rest_of_all term c.args.count 0) (sym c.in_ok-reserve.ensures)

pub loop-i-preserved : goal.loop-i-preserved
loop-i-preserved g c term gives =
    c.loop-i.invariant term gives
    ∙ all-step term c.args.count c.loop-i.i c.loop-i.self c.term-coefficient.result c.loop-i-test.true (gives c.loop-i.i c.term-coefficient.result c.loop-i-test.true c.term-coefficient.ensures)
    ∙ ap (with_rest_of_all term c.args.count (c.loop-i.i + 1)) (sym c.in_ok-add.ensures)

pub returns : goal.returns
returns g c term gives =
    sym (all-end term c.args.count c.loop-i.i c.loop-i.self c.loop-i-test.false)
    ∙ sym (c.loop-i.invariant term gives)
    ∙ all-begin term c.args.count c.args.self.now
