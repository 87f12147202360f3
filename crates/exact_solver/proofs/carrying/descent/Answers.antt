-- What is carried back is what the checks ask for, and the steps come one part after another.
use Rattle.row_problem.proofs.Common.{◌∙◌, refl, sym, err_from_is_err_and, first_wide-append, stop_of}
use Rattle.row_problem.proofs.CompletePlans.{direction-complete, plan-complete}
use Rattle.row_problem.proofs.FoundWords.{found-plan}
use Rattle.exact_solver.proofs.FoundLaws.{found-descent}
use Rattle.exact_solver.proofs.StepEnds.{of-part, stops-by}
use Rattle.exact_solver.proofs.carrying.descent.Goals as goal

pub returns-in_err-plan-clause-end : goal.returns-in_err-plan-clause-end
returns-in_err-plan-clause-end c =
    let e = c.in_err-plan.field-0.0 in
    let q = err_from_is_err_and c.from_residual.result c.from_residual.ensures.1 in
    rw (q.1, q.2) (stops-by _ (stop_of e) _ (of-part _ e c.in_err-plan.ensures.stopped) (λ place h. rw (first_wide-append, h) refl))

pub returns-in_err-along-clause-end : goal.returns-in_err-along-clause-end
returns-in_err-along-clause-end c =
    let e = c.in_err-along.field-0.0 in
    let q = err_from_is_err_and c.from_residual-in_err-along.result c.from_residual-in_err-along.ensures.1 in
    rw (q.1, q.2) (stops-by _ (stop_of e) _ (of-part _ e c.in_err-along.ensures.stopped) (λ place h. rw (first_wide-append, c.in_ok-plan.ensures.fits, first_wide-append, h) refl))

pub checked_descent-requires-clause-plan : goal.checked_descent-requires-clause-plan
checked_descent-requires-clause-plan c =
    let p = c.args.problem.now in
    found-plan p.rows.now p.vars.now p.reduced.now c.args.values.now c.in_ok-plan.plan c.requires.ended.0.0 c.plan_laws.ensures.ascending c.plan_laws.ensures.some c.plan_laws-3.ensures.some
    c.requires.ended.1.0 c.in_ok-plan.ensures.worth

pub checked_descent-requires-clause-direction : goal.checked_descent-requires-clause-direction
checked_descent-requires-clause-direction c =
    let p = c.args.problem.now in
    let is = c.in_ok-along.ensures.values in
    rw is
    (found-descent p.rows.now p.defs.now p.vars.now p.cost p.reduced.now c.requires.posed c.args.direction.now c.requires.ended.0.1 c.plan_laws-2.ensures.ascending c.plan_laws-2.ensures.some
    (rw is at c.plan_laws-4.ensures.some) c.requires.ended.1.1 (rw is at c.in_ok-along.ensures.worth))

pub checked_descent-requires-clause-complete : goal.checked_descent-requires-clause-complete
checked_descent-requires-clause-complete c =
    let p = c.args.problem.now in
    plan-complete p.rows.now p.defs.now p.vars.now c.requires.posed.problem c.args.values.now (c.requires.ended.0.0 ∙ c.requires.posed.columns) c.in_ok-plan.plan c.in_ok-plan.ensures.values c.plan_laws-3.ensures.ascending

pub checked_descent-requires-clause-along : goal.checked_descent-requires-clause-along
checked_descent-requires-clause-along c =
    let p = c.args.problem.now in
    direction-complete p.rows.now p.defs.now p.vars.now c.requires.posed.problem c.args.direction.now (c.requires.ended.0.1 ∙ c.requires.posed.columns) c.in_ok-along.along c.in_ok-along.ensures.values c.plan_laws-4.ensures.ascending

pub returns-clause-end : goal.returns-clause-end
returns-clause-end c =
    rw (first_wide-append, c.in_ok-plan.ensures.fits, first_wide-append, c.in_ok-along.ensures.fits, sym c.in_ok-plan.ensures.values, sym c.in_ok-along.ensures.values) c.checked_descent.ensures.end
