use Rattle.std.proofs.Common.{inl, inr}
use Rattle.std.proofs.lemmas.Result.{IfOk-weaker}
use Rattle.reduce_command.proofs.reduce.answer_reduce.Goals as goal

pub returns-in-Ok : goal.returns-in-Ok
returns-in-Ok c =
    let made = rw c.in-Ok.is at c.in_ok-book.ensures in
    IfOk-weaker c.answer_book.result _ _
    (λ answer due. inl (record { made = made.made; rows = c.in-Ok.book.rows; are_rows = made.is_book.are_rows; due = due }))
    c.answer_book.ensures

pub returns-in-Err : goal.returns-in-Err
returns-in-Err c = inr (rw c.in-Err.is at c.in_ok-book.ensures)
