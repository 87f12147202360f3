use Rattle.span_command.proofs.Common.{inr, IfOk-weaker, program-due, DueForRows}
use Rattle.span_command.proofs.span.answer_member.Goals as goal

pub answer_book-requires-clause-listed : goal.answer_book-requires-clause-listed
answer_book-requires-clause-listed g c =
    let own = rw c.in-Ok.is at c.in_ok-book.ensures in
    rw c.sets.ensures.sets own.listed

pub answer_book-requires-clause-there : goal.answer_book-requires-clause-there
answer_book-requires-clause-there g c =
    let own = rw c.in-Ok.is at c.in_ok-book.ensures in
    own.is_book.whole c.args.var c.requires.exists

pub returns-in-Ok : goal.returns-in-Ok
returns-in-Ok g c =
    let facts = c.args.model.now.facts in
    let made = rw c.in-Ok.is at c.in_ok-book.ensures in
    IfOk-weaker c.answer_book.result _ _
    (λ answer due.
    program-due (λ rows. DueForRows c.args.places facts rows c.args.var c.args.wanted c.args.model.now.rounded) c.args.places facts c.in-Ok.book made answer.status answer.text.items (rw c.rounded.ensures at due))
    (c.answer_book.ensures facts c.sets.ensures.sets made.is_book)

pub returns-in-Err : goal.returns-in-Err
returns-in-Err g c = inr (rw c.in-Err.is at c.in_ok-book.ensures)
