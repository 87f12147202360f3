-- What the trials ask for, and what they come to.
use Rattle.row_problem.proofs.Common.{err_from_is_err_and, value_of}
use Rattle.span_finder.proofs.LimitedLaws.{some-plan}
use Rattle.span_finder.proofs.SpanLaws.{answer-ends, answer-spans, answer-stops}
use Rattle.span_finder.proofs.spanning.found_span.Goals as goal

pub returns-in_err-all-clause-stopped : goal.returns-in_err-all-clause-stopped
returns-in_err-all-clause-stopped c =
    let r = err_from_is_err_and c.from_residual.result c.from_residual.ensures.1 in
    rw (r.1, r.2) (c.in_err-all.ensures.stopped c.args.var c.args.pivots)

pub both_trials-requires-clause-program : goal.both_trials-requires-clause-program
both_trials-requires-clause-program c = rw (c.deref.ensures.value, c.deref-2.ensures.value) c.in_ok-all.ensures.limited.program

pub both_trials-requires-clause-feasible : goal.both_trials-requires-clause-feasible
both_trials-requires-clause-feasible c =
    rw c.deref.ensures.value (some-plan c.args.rows.now c.args.vars.now (value_of c.args.limit) c.in_ok-all.field-0.rows.items c.in_ok-all.ensures.limited.of c.requires.feasible)

pub returns-clause-end : goal.returns-clause-end
returns-clause-end c =
    let is = c.in_ok-all.ensures.limited in
    answer-ends c.args.rows.now c.args.defs.now c.args.vars.now (value_of c.args.limit) c.args.var c.args.pivots c.in_ok-all.field-0.rows.items c.in_ok-all.field-0.defs.items is.of is.define is.fit c.both_trials.result
    (rw (c.deref.ensures.value, c.deref-2.ensures.value) at c.both_trials.ensures.end)

pub returns-clause-stopped : goal.returns-clause-stopped
returns-clause-stopped c =
    let is = c.in_ok-all.ensures.limited in
    answer-stops c.args.rows.now c.args.defs.now c.args.vars.now (value_of c.args.limit) c.args.var c.args.pivots c.in_ok-all.field-0.rows.items c.in_ok-all.field-0.defs.items is.of is.define is.fit c.both_trials.result
    (rw (c.deref.ensures.value, c.deref-2.ensures.value) at c.both_trials.ensures.stopped)

pub returns-clause-proved : goal.returns-clause-proved
returns-clause-proved c =
    answer-spans c.args.rows.now c.args.vars.now (value_of c.args.limit) c.args.var c.in_ok-all.field-0.rows.items c.requires.problem.ascending c.in_ok-all.ensures.limited.of c.requires.capacity c.both_trials.result
    (rw c.deref.ensures.value at c.both_trials.ensures.found)
