use Rattle.solve_command.proofs.Common.{inl, inr, IfOk-weaker}
use Rattle.solve_command.proofs.PricePlaces.{shown-within}
use Rattle.solve_command.proofs.solve.answer_end.Goals as goal

pub stop_at-requires : goal.stop_at-requires
stop_at-requires c =
    shown-within c.args.sets.now c.args.book.now.rows c.args.book.now.vars c.requires.listed c.args.wanted.show c.args.solution.now c.in-Err-Width.place
    (rw c.in-Err-Width.field-0-is at c.in-Err-Width.ensures.stopped)

pub returns-in-Ok : goal.returns-in-Ok
returns-in-Ok c = inl (c.in-Ok.ensures.fits, c.status_of-status.ensures, c.in-Ok.ensures.text)

pub returns-in_ok-first-in-Err-Width : goal.returns-in_ok-first-in-Err-Width
returns-in_ok-first-in-Err-Width c =
    let wide = rw c.in-Err-Width.field-0-is at c.in-Err-Width.ensures.stopped in
    let line = c.in_ok-first-in-Err-Width.ensures in
    IfOk-weaker c.or_second.result _ _
    (λ last is. inr (c.in-Err-Width.place, wide, elim is [ inl second ↦ inl second | inr kept ↦ inr (kept.0, rw line.0 at kept.1, rw line.1 at kept.2) ]))
    c.or_second.ensures
