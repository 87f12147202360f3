use Rattle.solve_command.proofs.Common.{inl, inr, IfOk-weaker}
use Rattle.solve_command.proofs.SolvedEnds.{due-from_second, due-from_solution, due-from_stop, stop_comes}
use Rattle.solve_command.proofs.solve.answer_exactly.Goals as goal

pub returns-in-Ok : goal.returns-in-Ok
returns-in-Ok c = λ d same book.
    let solved = c.in-Ok.ensures in
    IfOk-weaker c.answer_end.result _ _
    (λ answer told.
    due-from_solution c.args.places d c.args.book.now.rows c.args.book.now.vars book c.args.sets.now same c.args.wanted c.args.rounded answer.status answer.text.items
    (c.readback_laws.ensures c.args.places d same book) c.in-Ok.solution c.solution_fractions.ensures (rw c.from-pivots.ensures at solved.end) solved.proved solved.whole solved.named told)
    c.answer_end.ensures

pub returns-in_ok-first-in-Err : goal.returns-in_ok-first-in-Err
returns-in_ok-first-in-Err c = λ d same book.
    let places = c.args.places in
    let rows = c.args.book.now.rows in
    let vars = c.args.book.now.vars in
    let wanted = c.args.wanted in
    let sets = c.args.sets.now in
    let rounded = c.args.rounded in
    let stop = c.in-Err.stop in
    let first = c.in_ok-first-in-Err.first in
    let stopped = rw c.from-pivots.ensures at c.in-Err.ensures.stopped in
    let told = rw c.from-pivots.ensures at c.in_ok-first-in-Err.ensures in
    IfOk-weaker c.or_second.result _ _
    (λ last is. elim is [
      | inl second ↦ due-from_second places d rows vars book sets same wanted rounded last.status last.text.items
          (stop_comes places d rows vars book sets same wanted rounded last.status last.text.items stop first.status first.text.items stopped told) (c.readback_laws-in-Err.ensures places d same book) second
      | inr kept ↦ due-from_stop places d rows vars book sets same wanted rounded last.status last.text.items stop stopped kept.0 (rw (← kept.1, ← kept.2) at told)
    ])
    c.or_second.ensures
