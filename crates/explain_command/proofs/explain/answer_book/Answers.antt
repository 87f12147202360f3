-- Too large, or what is due where it isn't.
use Rattle.explain_command.proofs.Common.{IfOk-weaker, within-due, DueForMethod, Finds}
use Rattle.explain_command.proofs.explain.answer_book.Goals as goal

pub answer_large-requires-clause-large : goal.answer_large-requires-clause-large
answer_large-requires-clause-large g c = rw (c.in-Some.is, c.from.ensures) at c.in_ok-refusal.ensures

pub returns-in-Some : goal.returns-in-Some
returns-in-Some g c = c.answer_large.ensures

pub returns-in-None : goal.returns-in-None
returns-in-None g c = λ places d same book.
    let rows = c.args.book.now.rows in
    let wanted = c.args.wanted in
    let within = rw c.in-None.is at c.in_ok-refusal.ensures in
    IfOk-weaker c.answer_method.result _ _
    (λ answer due. within-due places d rows c.args.book.now.vars book wanted.method wanted.pivots (Finds wanted.method places d rows wanted) (DueForMethod places d rows wanted) answer.status answer.text.items within due)
    (c.answer_method.ensures places d same book)
