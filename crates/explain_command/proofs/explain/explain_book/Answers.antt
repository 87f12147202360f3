-- By one method or the other, of the lists of the book.
use Rattle.explain_command.proofs.Common.{IfErr, StopsSome, of-book}
use Rattle.explain_command.proofs.ExplainEnds.{ExactTells, WorthTells, exact-tells, rounded-tells}
use Rattle.explain_command.proofs.explain.explain_book.Goals as goal

pub returns-in-Exact : goal.returns-in-Exact
returns-in-Exact g c =
    let pivots = c.args.wanted.pivots in
    let same = c.problem_of-problem.ensures in
    let r = c.explain.result in
    let said = c.explain.ensures in
    rw c.in-Exact.is
    (exact-tells c.args.book.now.rows c.args.book.now.vars pivots c.requires.fits r
    (of-book (ExactTells pivots r) same.rows same.defs same.vars (rw c.from-pivots.ensures at said.end, rw c.from-pivots.ensures at said.stopped))
    (of-book (WorthTells r) same.rows same.defs same.vars (said.conflict, said.feasible)))

pub returns-in-Rounded : goal.returns-in-Rounded
returns-in-Rounded g c =
    let pivots = c.args.wanted.pivots in
    let same = c.problem_of-problem.ensures in
    let r = c.explain_rounded.result in
    let said = c.explain_rounded.ensures in
    rw c.in-Rounded.is
    (rounded-tells c.args.book.now.rows c.args.book.now.vars pivots c.requires.fits r
    (of-book (λ rs ds vs. IfErr r (StopsSome rs ds vs pivots)) same.rows same.defs same.vars (rw c.from-pivots.ensures at said.stopped))
    (of-book (WorthTells r) same.rows same.defs same.vars (said.conflict, said.feasible)))
