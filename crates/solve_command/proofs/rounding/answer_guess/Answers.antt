use Rattle.std.proofs.lemmas.Option.{IfSome_then}
use Rattle.std.proofs.lemmas.Result.{IfOk-weaker}
use Rattle.solve_command.proofs.RoundedEnds.{due-from_found}
use Rattle.solve_command.proofs.rounding.answer_guess.Goals as goal

pub returns-in-Some : goal.returns-in-Some
returns-in-Some c = λ d same book.
    let found = rw c.in-Some.is at c.requires.found in
    IfOk-weaker c.answer_found.result _ _
    (λ some told. IfSome_then some told (λ answer tells.
    due-from_found c.args.places d c.args.book.now.rows c.args.book.now.vars book c.args.sets.now same c.args.wanted c.args.rounded answer.status answer.text.items (c.readback_laws.ensures c.args.places d same book) c.in-Some.solution c.solution_fractions.ensures found tells))
    c.answer_found.ensures
