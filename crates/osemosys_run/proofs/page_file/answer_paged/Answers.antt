use Rattle.osemosys_run.proofs.Common.{inl, inr, subst, IfOk-weaker, TellsMade}
use Rattle.osemosys_run.proofs.page_file.answer_paged.Goals as goal

pub answer_over-requires-clause-listed : goal.answer_over-requires-clause-listed
answer_over-requires-clause-listed c =
    let facts = c.args.model.now.facts in
    (subst (TellsMade c.args.places facts) c.in-Ok.is c.in_ok-book.ensures).listed

pub answer_over-requires-clause-of_data : goal.answer_over-requires-clause-of_data
answer_over-requires-clause-of_data c =
    let facts = c.args.model.now.facts in
    (subst (TellsMade c.args.places facts) c.in-Ok.is c.in_ok-book.ensures).is_book

pub returns-in-Ok : goal.returns-in-Ok
returns-in-Ok c =
    let facts = c.args.model.now.facts in
    let made = subst (TellsMade c.args.places facts) c.in-Ok.is c.in_ok-book.ensures in
    IfOk-weaker c.answer_over.result _ _
    (λ answer due. inl (record { made = made.made; rows = c.in-Ok.book.rows; are_rows = made.is_book.are_rows; due = due }))
    c.answer_over.ensures

pub returns-in-Err : goal.returns-in-Err
returns-in-Err c = inr (subst (TellsMade c.args.places c.args.model.now.facts) c.in-Err.is c.in_ok-book.ensures)
