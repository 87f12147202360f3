use Rattle.solve_command.proofs.Common.{inl, inr, IfOk-weaker}
use Rattle.solve_command.proofs.starting.answer_from.Goals as goal

pub answer_start-requires : goal.answer_start-requires
answer_start-requires g c =
    let own = rw c.in-Ok.is at c.in_ok-book.ensures in
    rw c.sets.ensures.sets own.listed

pub returns-in-Ok : goal.returns-in-Ok
returns-in-Ok g c =
    let facts = c.args.model.now.facts in
    let made = rw c.in-Ok.is at c.in_ok-book.ensures in
    IfOk-weaker c.answer_start.result _ _
    (λ answer due. inl (record { made = made.made; rows = c.in-Ok.book.rows; are_rows = made.is_book.are_rows; due = rw c.rounded.ensures at due }))
    (c.answer_start.ensures facts c.sets.ensures.sets made.is_book)

pub returns-in-Err : goal.returns-in-Err
returns-in-Err g c = inr (rw c.in-Err.is at c.in_ok-book.ensures)
