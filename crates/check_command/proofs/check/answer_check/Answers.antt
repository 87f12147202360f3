use Rattle.check_command.proofs.Common.{inl, inr, sym, subst, IfOk-weaker, IsListedBook, TellsMade}
use Rattle.check_command.proofs.check.answer_check.Goals as goal

pub answer_plan_file-requires : goal.answer_plan_file-requires
answer_plan_file-requires c =
    let facts = c.args.model.now.facts in
    let own = subst (TellsMade c.args.places facts) c.in-Ok.is c.in_ok-book.ensures in
    subst (λ sets. IsListedBook sets c.in-Ok.book.rows c.in-Ok.book.vars) (sym c.sets.ensures.sets) own.listed

pub returns-in-Ok : goal.returns-in-Ok
returns-in-Ok c =
    let facts = c.args.model.now.facts in
    let made = subst (TellsMade c.args.places facts) c.in-Ok.is c.in_ok-book.ensures in
    IfOk-weaker c.answer_plan_file.result _ _
    (λ answer due. inl (record { made = made.made; rows = c.in-Ok.book.rows; are_rows = made.is_book.are_rows; due = due }))
    (c.answer_plan_file.ensures c.args.places facts c.sets.ensures.sets made.is_book)

pub returns-in-Err : goal.returns-in-Err
returns-in-Err c = inr (subst (TellsMade c.args.places c.args.model.now.facts) c.in-Err.is c.in_ok-book.ensures)
