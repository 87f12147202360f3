-- What the checks make of what is carried back.
use Rattle.span_finder.proofs.Common.{sym, ◌∙◌, subst, value_of, Has-from_Contains, BoundsAll, weight_of, IsPlan, Cost, IsClose, NonePasses}
use Rattle.row_problem.proofs.CompletePlans.{plan-complete}
use Rattle.span_finder.proofs.RoundedLaws.{end-passes}
use Rattle.span_finder.proofs.ValueLaws.{capacity-bounded}
use Rattle.span_finder.proofs.rounded_trial.carried.Goals as goal

pub returns : goal.returns
returns c =
    let p = c.args.problem.now in
    let rows = p.rows.now in
    let vars = p.vars.now in
    let trial = c.requires.trial in
    let bounds = subst (λ (cost : Cost). BoundsAll (weight_of cost) rows vars (value_of c.in_ok-bound.bound)) trial.cost c.in_ok-bound.ensures.bound.bounds in
    record {
      is_plan = subst (IsPlan rows vars c.in_ok-plan.plan) c.in_ok-accepted_plan.ensures.plan.cost_is c.in_ok-accepted_plan.ensures.plan;
      complete = plan-complete rows p.defs.now vars trial.posed.problem c.args.values.now (c.requires.keyed ∙ trial.posed.columns) c.in_ok-plan.plan c.in_ok-plan.ensures.values c.plan_laws.ensures.ascending;
      none_passes = subst (NonePasses c.args.goal rows vars c.args.var) (sym c.end_of-end.ensures)
          (end-passes rows vars c.args.var trial.posed.problem.ascending (Has-from_Contains vars c.args.var trial.capacity.listed) (capacity-bounded c.args.var trial.capacity.chosen) c.args.goal (value_of c.in_ok-bound.bound) bounds);
      close = subst (λ v. IsClose c.args.goal c.args.ppm v (value_of c.end_of-end.result)) c.value.ensures c.in_ok-checked_close.ensures;
    }
