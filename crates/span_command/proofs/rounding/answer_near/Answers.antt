use Rattle.span_command.proofs.BuiltCapacities.{rows-below}
use Rattle.span_command.proofs.rounding.answer_near.Goals as goal

pub rounded_span_of_book-requires-clause-named : goal.rounded_span_of_book-requires-clause-named
rounded_span_of_book-requires-clause-named g c = rows-below c.args.sets.now c.args.book.now.rows c.args.book.now.vars c.requires.listed

pub returns-in_ok-answer-in-Some : goal.returns-in_ok-answer-in-Some
returns-in_ok-answer-in-Some g c =
    let is = c.in-Ok.ensures.limit in
    let told = c.in_ok-answer-in-Some.ensures in
    record { span = c.in-Some.span; worth = rw (c.in-Some.is, is) at c.in_ok-span.ensures; status_is = told.0; text_is = rw is at told.1 }
