-- One row after another.
use Rattle.command_answers.proofs.Common.{◌<◌, List, length, ◌∙◌, subst, Row}
use Rattle.command_answers.proofs.BookProblems.{definers-next}
use Rattle.command_answers.proofs.methods.definers.Goals as goal

pub loop-i-preserved : goal.loop-i-preserved
loop-i-preserved c =
    let rows = c.args.book.now.rows in
    let i = c.loop-i.i in
    let inside : i < length rows = subst (λ (rs : List Row). i < length rs) c.rows-count.ensures.rows c.loop-i-test.true in
    c.in_ok-push.ensures.items ∙ definers-next rows i c.loop-i.defs.items c.defined_by.result inside c.loop-i.invariant c.defined_by.ensures.defines
