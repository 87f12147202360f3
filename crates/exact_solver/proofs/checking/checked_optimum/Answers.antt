-- The checks one after another: each stops where its first number that doesn't fit is.
use Rattle.row_problem.proofs.Common.{refl, sym, err_from_is_err_and, first_wide-append, value_of}
use Rattle.exact_num.proofs.ValueLaws.{value_of-IsLowest}
use Rattle.exact_solver.proofs.StepEnds.{stops-by}
use Rattle.exact_solver.proofs.WorthLaws.{costs-bound, optimum-is}
use Rattle.exact_solver.proofs.checking.checked_optimum.Goals as goal

pub returns-in_err-cost-clause-end : goal.returns-in_err-cost-clause-end
returns-in_err-cost-clause-end c =
    let q = err_from_is_err_and c.from_residual.result c.from_residual.ensures.1 in
    rw (q.1, q.2) (stops-by _ c.in_err-cost.field-0.0 _ (c.in_err-cost.ensures.found c.requires.found.plan_found) (λ place h. rw (first_wide-append, h) refl))

pub returns-in_err-bound-clause-end : goal.returns-in_err-bound-clause-end
returns-in_err-bound-clause-end c =
    let q = err_from_is_err_and c.from_residual-in_err-bound.result c.from_residual-in_err-bound.ensures.1 in
    rw (q.1, q.2)
    (stops-by _ c.in_err-bound.field-0.0 _ (c.in_err-bound.ensures.found c.requires.found.bound_found) (λ place h. rw (first_wide-append, c.in_ok-cost.ensures.plan.pass.fit, first_wide-append, h) refl))

pub closed-requires : goal.closed-requires
closed-requires c =
    let p = c.args.problem.now in
    costs-bound p.cost p.rows.now p.vars.now c.args.plan c.args.multipliers (value_of c.in_ok-cost.cost) (value_of c.in_ok-bound.bound) (value_of-IsLowest c.in_ok-cost.cost) (value_of-IsLowest c.in_ok-bound.bound) c.in_ok-cost.ensures.plan
    c.in_ok-bound.ensures.bound c.requires.found

pub returns-in_err-closed-clause-end : goal.returns-in_err-closed-clause-end
returns-in_err-closed-clause-end c =
    let cost = c.in_ok-cost.ensures.plan in
    let bound = c.in_ok-bound.ensures.bound in
    let q = err_from_is_err_and c.from_residual-in_err-closed.result c.from_residual-in_err-closed.ensures.1 in
    rw (q.1, q.2)
    (stops-by _ c.in_err-closed.field-0.0 _ c.in_err-closed.ensures.stopped
    (λ place h. rw (first_wide-append, cost.pass.fit, first_wide-append, bound.pass.fit, sym cost.cost_is, sym bound.bound_is, h) refl))

pub returns-clause-end : goal.returns-clause-end
returns-clause-end c =
    let cost = c.in_ok-cost.ensures.plan in
    let bound = c.in_ok-bound.ensures.bound in
    rw (first_wide-append, cost.pass.fit, first_wide-append, bound.pass.fit, sym cost.cost_is, sym bound.bound_is, c.in_ok-closed.ensures.fits) refl

pub returns-clause-worth : goal.returns-clause-worth
returns-clause-worth c =
    let p = c.args.problem.now in
    record {
      proved =
          optimum-is p.rows.now p.defs.now p.vars.now p.reduced.now c.args.plan c.args.multipliers (value_of c.in_ok-cost.cost) (value_of c.in_ok-bound.bound) c.in_ok-cost.ensures.plan (value_of-IsLowest c.in_ok-bound.bound) p.cost
          c.requires.posed c.plan_laws.ensures.lowest c.in_ok-bound.ensures.bound c.requires.found c.in_ok-closed.ensures.closed;
      whole = c.requires.complete;
      named = c.requires.named;
    }
