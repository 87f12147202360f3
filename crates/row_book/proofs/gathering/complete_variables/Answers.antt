use Rattle.row_book.proofs.Common.{List, ◌++◌, subst, arith, on_ok_weaker, Row, Var, entry_variables, held_variables, AreSameVariables}
use Rattle.row_book.proofs.HeldVariables.{completed-more, completed-sorted}
use Rattle.row_book.proofs.gathering.complete_variables.Goals as goal

pub loop-rows-preserved : goal.loop-rows-preserved
loop-rows-preserved c =
    let so_far : List Var = c.loop-rows.vars.items in
    let now : List Var = c.gather_variables.new.vars.items in
    let more = subst (λ (rows : List Row). AreSameVariables now (so_far ++ entry_variables rows)) c.deref.ensures.value c.in-Ok.ensures in
    completed-more c.args.held.now c.loop-rows.rows-index c.rows-item.result so_far now (c.args.vars.now.items ++ held_variables c.args.held.now)
    c.loop-rows-test.true c.rows-item.is more c.loop-rows.invariant

pub returns : goal.returns
returns c =
    on_ok_weaker _
    (completed-sorted c.args.held.now c.loop-rows.rows-index c.loop-rows.vars.items c.sort_variables.new.vars.items (c.args.vars.now.items ++ held_variables c.args.held.now) (omega arith) c.loop-rows.invariant)
    c.sort_variables.ensures
