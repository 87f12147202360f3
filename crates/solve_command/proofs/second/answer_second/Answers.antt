use Rattle.solve_command.proofs.Common.{sym, IfOk-weaker}
use Rattle.solve_command.proofs.SecondEnds.{second-told}
use Rattle.solve_command.proofs.second.answer_second.Goals as goal

pub returns-in-Some : goal.returns-in-Some
returns-in-Some c =
    let is = c.in-Some.is in
    let given = c.in_ok-found.ensures in
    let end = rw (is, c.from-pivots.ensures) at given.end in
    IfOk-weaker c.answer_grid.result _ _
    (λ answer told.
    second-told c.args.book.now.rows c.args.book.now.vars c.args.wanted c.in-Some.found c.if-wanted-eq0.false c.requires.fits (sym end)
    (rw is at given.proved) (rw is at given.whole) (rw is at given.named) c.plan_fractions.ensures c.multiplier_fractions.ensures c.args.sets.now c.args.rounded c.args.places answer told)
    c.answer_grid.ensures
