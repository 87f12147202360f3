-- The checks one after another.
use Rattle.row_problem.proofs.Common.{err_from_is_err_and, value_of}
use Rattle.decimal_solver.proofs.CheckLaws.{all_yes, no_bound, no_gap, no_plan, passes-yes}
use Rattle.decimal_solver.proofs.attempts.checked.Goals as goal

pub returns-in_err-cost-clause-nothing : goal.returns-in_err-cost-clause-nothing
returns-in_err-cost-clause-nothing c =
    let q = err_from_is_err_and c.from_residual.result c.from_residual.ensures.1 in
    rw (q.1, q.2) (no_plan c.args.problem.now.rows.now c.args.problem.now.vars.now c.args.ppm c.args.plan c.args.multipliers c.args.pivots c.in_err-cost.field-0.0 c.in_err-cost.ensures.refused)

pub returns-in_err-bound-clause-nothing : goal.returns-in_err-bound-clause-nothing
returns-in_err-bound-clause-nothing c =
    let q = err_from_is_err_and c.from_residual-in_err-bound.result c.from_residual-in_err-bound.ensures.1 in
    rw (q.1, q.2) (no_bound c.args.problem.now.rows.now c.args.problem.now.vars.now c.args.ppm c.args.plan c.args.multipliers c.args.pivots c.in_err-bound.field-0.0 c.in_err-bound.ensures.refused)

pub returns-in_err-accepted_gap-clause-nothing : goal.returns-in_err-accepted_gap-clause-nothing
returns-in_err-accepted_gap-clause-nothing c =
    let q = err_from_is_err_and c.from_residual-in_err-accepted_gap.result c.from_residual-in_err-accepted_gap.ensures.1 in
    rw (q.1, q.2)
    (no_gap c.args.problem.now.rows.now c.args.problem.now.vars.now c.args.ppm c.args.plan c.args.multipliers c.args.pivots (value_of c.in_ok-cost.cost) (value_of c.in_ok-bound.bound) c.in_ok-cost.ensures.plan.cost_is c.in_ok-bound.ensures.bound.bound_is
    c.in_err-accepted_gap.field-0.0 c.in_err-accepted_gap.ensures.refused)

pub returns-clause-end : goal.returns-clause-end
returns-clause-end c =
    all_yes c.args.problem.now.rows.now c.args.problem.now.vars.now c.args.ppm c.args.plan c.args.multipliers c.args.pivots (value_of c.in_ok-cost.cost) (value_of c.in_ok-bound.bound) c.in_ok-cost.ensures.plan.cost_is c.in_ok-bound.ensures.bound.bound_is
    (passes-yes _ c.in_ok-cost.ensures.plan.pass) (passes-yes _ c.in_ok-bound.ensures.bound.pass) (passes-yes _ c.in_ok-accepted_gap.ensures.near.pass)
