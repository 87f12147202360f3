use Rattle.solve_command.proofs.Common.{inl, inr, IfOk-weaker}
use Rattle.solve_command.proofs.summary.answer_summary.Goals as goal

pub summarize_book-requires : goal.summarize_book-requires
summarize_book-requires g c =
    let own = rw c.in-Ok.is at c.in_ok-book.ensures in
    rw c.sets.ensures.sets own.listed

pub returns-in-Ok : goal.returns-in-Ok
returns-in-Ok g c =
    let facts = c.args.model.now.facts in
    let made = rw c.in-Ok.is at c.in_ok-book.ensures in
    IfOk-weaker c.summarize_book.result _ _
    (λ answer due. inl (record { made = made.made; rows = c.in-Ok.book.rows; are_rows = made.is_book.are_rows; due = rw c.rounded.ensures at due }))
    (c.summarize_book.ensures facts c.sets.ensures.sets made.is_book)

pub returns-in-Err : goal.returns-in-Err
returns-in-Err g c = inr (rw c.in-Err.is at c.in_ok-book.ensures)
