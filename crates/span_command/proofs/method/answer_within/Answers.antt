use Rattle.span_command.proofs.Common.{inl, inr, IfOk-weaker}
use Rattle.span_command.proofs.BuiltCapacities.{rows-below}
use Rattle.span_command.proofs.method.answer_within.Goals as goal

pub span_of_book-requires-clause-named : goal.span_of_book-requires-clause-named
span_of_book-requires-clause-named c = rows-below c.args.sets.now c.args.book.now.rows c.args.book.now.vars c.requires.listed

pub returns-in-Ok : goal.returns-in-Ok
returns-in-Ok c =
    IfOk-weaker c.answer_found.result _ _
    (λ answer told. inl (record { span = c.in-Ok.span; ends = c.in-Ok.ensures.end; proved = c.in-Ok.ensures.proved; status_is = told.0; text_is = told.1 }))
    c.answer_found.ensures

pub returns-in-Err : goal.returns-in-Err
returns-in-Err c = IfOk-weaker c.answer_fail.result _ _ (λ answer told. inr told) c.answer_fail.ensures
