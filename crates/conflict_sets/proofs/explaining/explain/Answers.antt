-- The first trial, and the trials after it.
use Rattle.conflict_sets.proofs.Common.{refl, sym, ◌∙◌, err_from_is_err_and, every, explained}
use Rattle.conflict_sets.proofs.PartLaws.{all-met, every-taken}
use Rattle.conflict_sets.proofs.SearchLaws.{search-starts}
use Rattle.conflict_sets.proofs.WalkLaws.{explained-stops}
use Rattle.conflict_sets.proofs.explaining.explain.Goals as goal

pub returns-in-Ok-Plan-clause-end : goal.returns-in-Ok-Plan-clause-end
unfolding explained
returns-in-Ok-Plan-clause-end c = rw (sym c.in-Ok-Plan.ensures.end, c.in-Ok-Plan.field-0-is, explained) refl

pub returns-in-Ok-Plan-clause-feasible : goal.returns-in-Ok-Plan-clause-feasible
returns-in-Ok-Plan-clause-feasible c =
    let rows = c.args.problem.now.rows.now in
    let vars = c.args.problem.now.vars.now in
    let worth = rw c.in-Ok-Plan.field-0-is at c.in-Ok-Plan.ensures.worth in
    let some = worth.0.some in
    record { over = some.over; plan = some.number; meets = all-met rows vars every some.over some.number every-taken (worth.0.meets some.over some.number (some.positive, some.each)) }

pub returns-in-Err-clause-stopped : goal.returns-in-Err-clause-stopped
returns-in-Err-clause-stopped c =
    let p = c.args.problem.now in
    explained-stops p.rows.now p.defs.now p.vars.now c.args.pivots c.in-Err.stop c.first_fail.result c.in-Err.ensures.stopped c.first_fail.ensures

pub searched-requires-clause-searched : goal.searched-requires-clause-searched
searched-requires-clause-searched c =
    let p = c.args.problem.now in
    let refuted = (rw c.in-Ok-Refutation.field-0-is at c.in-Ok-Refutation.ensures.worth).0 in
    rw (c.new.ensures.items, c.deref.ensures.value ∙ c.in_ok-names.ensures) (search-starts p.rows.now p.defs.now p.vars.now c.in-Ok-Refutation.multipliers c.requires.problem refuted)

pub returns-in_err-conflict-clause-stopped : goal.returns-in_err-conflict-clause-stopped
unfolding explained
returns-in_err-conflict-clause-stopped c =
    let q = err_from_is_err_and c.from_residual-in_err-conflict.result c.from_residual-in_err-conflict.ensures.1 in
    rw (q.1, q.2, sym c.in-Ok-Refutation.ensures.end, c.in-Ok-Refutation.field-0-is, explained)
    (rw (c.new.ensures.items, c.deref.ensures.value ∙ c.in_ok-names.ensures) at c.in_err-conflict.ensures.stopped)

pub returns-clause-end : goal.returns-clause-end
unfolding explained
returns-clause-end c =
    rw (sym c.in-Ok-Refutation.ensures.end, c.in-Ok-Refutation.field-0-is, explained)
    (rw (c.new.ensures.items, c.deref.ensures.value ∙ c.in_ok-names.ensures) at c.in_ok-conflict.ensures.end)
