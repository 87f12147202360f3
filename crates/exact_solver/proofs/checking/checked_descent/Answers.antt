-- The checks one after another: each stops where its first number that doesn't fit is.
use Rattle.row_problem.proofs.Common.{refl, subst, err_from_is_err_and, first_wide-append, IsPlan}
use Rattle.exact_solver.proofs.StepEnds.{stops-by}
use Rattle.exact_solver.proofs.WorthLaws.{descent-at}
use Rattle.exact_solver.proofs.checking.checked_descent.Goals as goal

pub returns-in_err-accepted_plan-clause-end : goal.returns-in_err-accepted_plan-clause-end
returns-in_err-accepted_plan-clause-end c =
    let q = err_from_is_err_and c.from_residual.result c.from_residual.ensures.1 in
    rw (q.1, q.2) (stops-by _ c.in_err-accepted_plan.field-0.0 _ (c.in_err-accepted_plan.ensures.found c.requires.plan) (λ place h. rw (first_wide-append, h) refl))

pub returns-in_err-accepted_direction-clause-end : goal.returns-in_err-accepted_direction-clause-end
returns-in_err-accepted_direction-clause-end c =
    let q = err_from_is_err_and c.from_residual-in_err-accepted_direction.result c.from_residual-in_err-accepted_direction.ensures.1 in
    rw (q.1, q.2)
    (stops-by _ c.in_err-accepted_direction.field-0.0 _ (c.in_err-accepted_direction.ensures.found c.requires.direction) (λ place h. rw (first_wide-append, c.in_ok-accepted_plan.ensures.plan.pass.fit, h) refl))

pub returns-clause-end : goal.returns-clause-end
returns-clause-end c = rw (first_wide-append, c.in_ok-accepted_plan.ensures.plan.pass.fit, c.in_ok-accepted_direction.ensures.descent.pass.fit) refl

pub returns-clause-worth : goal.returns-clause-worth
returns-clause-worth c =
    let p = c.args.problem.now in
    let plan = c.in_ok-accepted_plan.ensures.plan in
    record {
      proved = (
        subst (IsPlan p.rows.now p.vars.now c.args.plan) plan.cost_is plan,
        descent-at p.cost p.rows.now p.vars.now c.args.plan c.args.direction c.requires.plan c.in_ok-accepted_direction.ensures.descent,
      );
      whole = (c.requires.complete, c.requires.along);
      named = tt;
    }
