-- What guesses find is due by the rounded method.
use Rattle.explain_command.proofs.ExplainEnds.{finds-from_guess}
use Rattle.explain_command.proofs.explain.answer_guessed.Goals as goal

pub answer_found-requires-clause-conflict : goal.answer_found-requires-clause-conflict
answer_found-requires-clause-conflict g c = (rw c.in-Some.is at c.in_ok-found.ensures).conflict

pub returns-in-Some : goal.returns-in-Some
returns-in-Some g c = λ places d same book.
    let finding = rw c.in-Some.is at c.in_ok-found.ensures in
    let answer = c.in_ok-answer-in-Some.answer in
    finds-from_guess places d c.args.book.now.rows c.args.book.now.vars c.vars.ensures.book book c.args.sets.now same c.args.wanted answer.status answer.text.items c.requires.asked c.in-Some.found finding c.in_ok-answer-in-Some.ensures
