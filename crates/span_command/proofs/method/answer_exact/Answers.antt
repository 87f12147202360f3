use Rattle.std.proofs.lemmas.Result.{IfOk-weaker}
use Rattle.span_command.proofs.SpannedEnds.{due-from_solution, due-from_stop}
use Rattle.span_command.proofs.method.answer_exact.Goals as goal

pub returns-in-Ok : goal.returns-in-Ok
returns-in-Ok g c = λ d same book.
    let solved = c.in-Ok.ensures in
    IfOk-weaker c.answer_solution.result _ _
    (λ answer told.
    due-from_solution c.args.places d c.args.book.now.rows c.args.book.now.vars book c.args.sets.now same c.args.var c.args.wanted c.args.rounded answer.status answer.text.items
    c.in-Ok.solution solved.end solved.proved solved.whole solved.named told)
    c.answer_solution.ensures

pub returns-in-Err : goal.returns-in-Err
returns-in-Err g c = λ d same book.
    IfOk-weaker c.stop_on_book.result _ _
    (λ answer told.
    due-from_stop c.args.places d c.args.book.now.rows c.args.book.now.vars book c.args.sets.now same c.args.var c.args.wanted c.args.rounded answer.status answer.text.items
    c.in-Err.stop c.in-Err.ensures.stopped told)
    c.stop_on_book.ensures
