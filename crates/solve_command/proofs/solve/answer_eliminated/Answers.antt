-- Where the elimination stops, so do the exact method and the second attempt.
use Rattle.std.proofs.lemmas.Result.{IfOk-weaker}
use Rattle.solve_command.proofs.SolvedEnds.{due-from_elimination}
use Rattle.solve_command.proofs.solve.answer_eliminated.Goals as goal

pub returns-in-Ok : goal.returns-in-Ok
returns-in-Ok g c = c.answer_program.ensures

pub returns-in-Err : goal.returns-in-Err
returns-in-Err g c = λ d same book.
    IfOk-weaker c.stop_on_elimination.result _ _
    (λ answer told.
    due-from_elimination c.args.places d c.args.book.now.rows c.args.book.now.vars book c.args.sets.now same c.args.wanted c.args.rounded answer.status answer.text.items told.place told.wide told.status_is told.line_is)
    c.stop_on_elimination.ensures
