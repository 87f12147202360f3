-- Where the elimination stops, so do the trials.
use Rattle.explain_command.proofs.Common.{IfOk-weaker, Width}
use Rattle.explain_command.proofs.ExplainEnds.{due-from_stop, elimination-cause}
use Rattle.explain_command.proofs.explain.answer_method.Goals as goal

pub returns-in-Ok : goal.returns-in-Ok
returns-in-Ok g c = c.answer_program.ensures

pub returns-in-Err : goal.returns-in-Err
returns-in-Err g c = λ places d same book.
    let rows = c.args.book.now.rows in
    let vars = c.args.book.now.vars in
    let wanted = c.args.wanted in
    IfOk-weaker c.stop_on_elimination.result _ _
    (λ answer told.
    due-from_stop places d rows vars c.vars.ensures.book book c.args.sets.now same wanted answer.status answer.text.items
    (Width told.place) (elimination-cause rows vars wanted.pivots told.place told.wide wanted.method) told.status_is told.line_is)
    c.stop_on_elimination.ensures
