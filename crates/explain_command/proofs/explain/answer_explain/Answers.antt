use Rattle.explain_command.proofs.Common.{inr, IfOk-weaker, program-due, DueForRows}
use Rattle.explain_command.proofs.explain.answer_explain.Goals as goal

pub answer_book-requires : goal.answer_book-requires
answer_book-requires g c =
    let own = rw c.in-Ok.is at c.in_ok-book.ensures in
    rw c.sets.ensures.sets own.listed

pub returns-in-Ok : goal.returns-in-Ok
returns-in-Ok g c =
    let facts = c.args.model.now.facts in
    let made = rw c.in-Ok.is at c.in_ok-book.ensures in
    IfOk-weaker c.answer_book.result _ _
    (λ answer due. program-due (λ rows. DueForRows c.args.places facts rows c.args.wanted) c.args.places facts c.in-Ok.book made answer.status answer.text.items due)
    (c.answer_book.ensures c.args.places facts c.sets.ensures.sets made.is_book)

pub returns-in-Err : goal.returns-in-Err
returns-in-Err g c = inr (rw c.in-Err.is at c.in_ok-book.ensures)
