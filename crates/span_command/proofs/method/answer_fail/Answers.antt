use Rattle.span_command.proofs.Common.{IfOk-weaker, value_of}
use Rattle.span_command.proofs.SpanPlaces.{stop-limited}
use Rattle.span_command.proofs.method.answer_fail.Goals as goal

pub answer_limited-requires : goal.answer_limited-requires
answer_limited-requires c =
    stop-limited c.args.sets.now c.args.book.now.rows c.args.book.now.vars c.requires.listed c.vars.ensures.book (value_of c.args.limit) c.args.var c.args.wanted.pivots c.in-Stopped.stop
    (rw c.in-Stopped.is at c.requires.stops)

pub returns-in-Stopped : goal.returns-in-Stopped
returns-in-Stopped c =
    IfOk-weaker c.answer_limited.result _ _
    (λ answer told. record { stop = c.in-Stopped.stop; stops = rw c.in-Stopped.is at c.requires.stops; status_is = told.0; line_is = told.1 })
    c.answer_limited.ensures
