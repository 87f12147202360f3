-- One trial after the other, over the same rows with another cost.
use Rattle.span_finder.proofs.Common.{◌≡◌, refl, subst, err_from_is_err_and, IfErr, IfOk, Cost, Model, One, Least, IsProgramOf, SpanEnd, StopsAt, span_seen}
use Rattle.span_finder.proofs.SpanLaws.{both-end, both-found, both-stop}
use Rattle.span_finder.proofs.ValueLaws.{capacity-among}
use Rattle.span_finder.proofs.spanning.both_trials.Goals as goal

pub least-requires-clause-trial : goal.least-requires-clause-trial
least-requires-clause-trial c =
    let rows = c.args.rows.now in
    let defs = c.args.defs.now in
    let vars = c.args.vars.now in
    let program = c.requires.program in
    record {
      posed = c.in_ok-first.ensures.program rows defs vars Model program (capacity-among rows defs vars Model c.args.reduced c.args.var program c.requires.capacity);
      cost = refl;
      capacity = c.requires.capacity;
    }

pub returns-in_err-low_plan-clause-stopped : goal.returns-in_err-low_plan-clause-stopped
returns-in_err-low_plan-clause-stopped c =
    let q = err_from_is_err_and c.from_residual-in_err-low_plan.result c.from_residual-in_err-low_plan.ensures.1 in
    rw (q.1, q.2) (both-stop c.args.rows.now c.args.defs.now c.args.vars.now c.args.var c.args.pivots c.in_err-low_plan.field-0.0 c.in_err-low_plan.ensures.stopped)

pub greatest-requires-clause-trial : goal.greatest-requires-clause-trial
greatest-requires-clause-trial c =
    let rows = c.args.rows.now in
    let defs = c.args.defs.now in
    let vars = c.args.vars.now in
    let program = c.requires.program in
    let cost : Cost = One c.args.var Least in
    let first : IsProgramOf rows defs vars cost c.in_ok-first.first = c.in_ok-first.ensures.program rows defs vars Model program (capacity-among rows defs vars Model c.args.reduced c.args.var program c.requires.capacity) in
    record {
      posed = c.in_ok-second.ensures.program rows defs vars cost first (capacity-among rows defs vars cost c.in_ok-first.first c.args.var first c.requires.capacity);
      cost = refl;
      capacity = c.requires.capacity;
    }

pub returns-clause-end : goal.returns-clause-end
returns-clause-end c =
    subst (λ (end : SpanEnd). IfOk c.greatest.result (λ span. span_seen span ≡ end))
    (both-end c.args.rows.now c.args.defs.now c.args.vars.now c.args.var c.args.pivots c.in_ok-low_plan.low_plan c.in_ok-low_plan.ensures.end) c.greatest.ensures.end

pub returns-clause-stopped : goal.returns-clause-stopped
returns-clause-stopped c =
    subst (λ (end : SpanEnd). IfErr c.greatest.result (StopsAt end))
    (both-end c.args.rows.now c.args.defs.now c.args.vars.now c.args.var c.args.pivots c.in_ok-low_plan.low_plan c.in_ok-low_plan.ensures.end) c.greatest.ensures.stopped

pub returns-clause-found : goal.returns-clause-found
returns-clause-found c = both-found c.args.rows.now c.args.vars.now c.args.var c.in_ok-low_plan.low_plan c.greatest.result c.in_ok-low_plan.ensures.worth c.greatest.ensures.low c.greatest.ensures.high
