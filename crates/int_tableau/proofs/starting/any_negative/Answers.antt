use Rattle.int_tableau.proofs.Common.{◌≡◌, pos, sym, ap, ◌∙◌, to_z, of_z, w128, int_lt, back_in_range, rhs_fits, as_most}
use Rattle.int_tableau.proofs.LoopLaws.{negative-here, negative-later, negative-none}
use Rattle.int_tableau.proofs.starting.any_negative.Goals as goal

pub returns-then-as_most-lt0 : goal.returns-then-as_most-lt0
returns-then-as_most-lt0 c =
    let rows = c.args.rows.now in
    let row = c.row-item.result in
    let number : to_z w128 (of_z w128 c.as_most.result) ≡ as_most row.sense row.rhs = back_in_range c.as_most.result c.as_most.ensures.range ∙ c.as_most.ensures.value ∙ ap (as_most row.sense) (back_in_range row.rhs (rhs_fits row)) in
    sym (c.loop-row.invariant ∙ negative-here rows c.loop-row.row-index row c.loop-row-test.true c.row-item.is (ap (λ z. int_lt z (pos 0)) (sym number) ∙ c.if-as_most-lt0.true))

pub loop-row-preserved : goal.loop-row-preserved
loop-row-preserved c =
    let rows = c.args.rows.now in
    let row = c.row-item.result in
    let number : to_z w128 (of_z w128 c.as_most.result) ≡ as_most row.sense row.rhs = back_in_range c.as_most.result c.as_most.ensures.range ∙ c.as_most.ensures.value ∙ ap (as_most row.sense) (back_in_range row.rhs (rhs_fits row)) in
    c.loop-row.invariant ∙ negative-later rows c.loop-row.row-index row c.loop-row-test.true c.row-item.is (ap (λ z. int_lt z (pos 0)) (sym number) ∙ c.if-as_most-lt0.false)

pub returns : goal.returns
returns c = sym (c.loop-row.invariant ∙ negative-none c.args.rows.now c.loop-row.row-index c.loop-row-test.false)
