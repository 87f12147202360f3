use Rattle.std.proofs.lemmas.Option.{IfSome_then}
use Rattle.std.proofs.lemmas.Result.{IfOk-weaker}
use Rattle.span_command.proofs.FoundEnds.{due-from_found}
use Rattle.span_command.proofs.rounding.answer_within.Goals as goal

pub returns-in-Some : goal.returns-in-Some
returns-in-Some g c = λ d same book.
    let found = rw c.in-Some.is at c.in_ok-solution.ensures in
    IfOk-weaker c.answer_solution.result _ _
    (λ some told. IfSome_then some told (λ answer tells.
    due-from_found c.args.places d c.args.book.now.rows c.args.book.now.vars book c.args.sets.now same c.args.var c.args.wanted c.args.gap c.args.rounded c.requires.tried answer.status answer.text.items c.in-Some.solution found tells))
    c.answer_solution.ensures
