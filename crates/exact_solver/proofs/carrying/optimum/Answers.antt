-- What is carried back is what the checks ask for, and the steps come one part after another.
use Rattle.row_problem.proofs.Common.{◌∙◌, refl, ap, sym, length, map, length-map, err_from_is_err_and, first_wide-append, value_of, inequality_of, stop_of}
use Rattle.row_problem.proofs.CompletePlans.{multipliers-named, plan-complete}
use Rattle.exact_solver.proofs.FoundLaws.{found-optimum}
use Rattle.row_problem.proofs.OverLaws.{some-over}
use Rattle.exact_solver.proofs.StepEnds.{of-part, stops-by}
use Rattle.exact_solver.proofs.carrying.optimum.Goals as goal

pub returns-in_err-plan-clause-end : goal.returns-in_err-plan-clause-end
returns-in_err-plan-clause-end c =
    let e = c.in_err-plan.field-0.0 in
    let q = err_from_is_err_and c.from_residual.result c.from_residual.ensures.1 in
    rw (q.1, q.2) (stops-by _ (stop_of e) _ (of-part _ e c.in_err-plan.ensures.stopped) (λ place h. rw (first_wide-append, h) refl))

pub carry_multipliers-requires-clause-counted : goal.carry_multipliers-requires-clause-counted
carry_multipliers-requires-clause-counted c =
    sym (length-map c.entries.result.now value_of) ∙ ap length c.entries.ensures ∙ c.requires.ended.0.1 ∙ length-map c.args.problem.now.reduced.now.rows.items inequality_of

pub returns-in_err-multipliers-clause-end : goal.returns-in_err-multipliers-clause-end
returns-in_err-multipliers-clause-end c =
    let e = c.in_err-multipliers.field-0.0 in
    let stopped = rw (c.is_model.ensures, c.entries.ensures) at c.in_err-multipliers.ensures.stopped in
    let q = err_from_is_err_and c.from_residual-in_err-multipliers.result c.from_residual-in_err-multipliers.ensures.1 in
    rw (q.1, q.2) (stops-by _ (stop_of e) _ (of-part _ e stopped) (λ place h. rw (first_wide-append, c.in_ok-plan.ensures.fits, first_wide-append, h) refl))

pub checked_optimum-requires-clause-found : goal.checked_optimum-requires-clause-found
checked_optimum-requires-clause-found c =
    let p = c.args.problem.now in
    let fs = c.entries.result.now in
    let is = c.in_ok-plan.ensures.values in
    rw is
    (found-optimum p.rows.now p.defs.now p.vars.now p.cost p.reduced.now c.requires.posed c.args.values.now fs c.in_ok-multipliers.multipliers c.requires.ended.0.0 c.plan_laws.ensures.ascending c.plan_laws.ensures.some
    (rw is at c.plan_laws-2.ensures.some) c.multiplier_laws.ensures.some (some-over fs) c.requires.ended.1.0 (rw c.entries.ensures c.requires.ended.1.1) (rw is at c.in_ok-plan.ensures.worth) (c.in_ok-multipliers.ensures.proves c.is_model.ensures))

pub checked_optimum-requires-clause-complete : goal.checked_optimum-requires-clause-complete
checked_optimum-requires-clause-complete c =
    let p = c.args.problem.now in
    plan-complete p.rows.now p.defs.now p.vars.now c.requires.posed.problem c.args.values.now (c.requires.ended.0.0 ∙ c.requires.posed.columns) c.in_ok-plan.plan c.in_ok-plan.ensures.values c.plan_laws-2.ensures.ascending

pub checked_optimum-requires-clause-named : goal.checked_optimum-requires-clause-named
checked_optimum-requires-clause-named c =
    let p = c.args.problem.now in
    multipliers-named c.is_model.result p.rows.now p.defs.now (map value_of c.entries.result.now) c.in_ok-multipliers.multipliers c.in_ok-multipliers.ensures.multipliers c.multiplier_laws.ensures.ascending

pub returns-clause-end : goal.returns-clause-end
returns-clause-end c =
    let carried = c.in_ok-multipliers.ensures in
    let fits = rw (c.is_model.ensures, c.entries.ensures) at carried.fits in
    let made = rw (c.is_model.ensures, c.entries.ensures) at carried.multipliers in
    rw (first_wide-append, c.in_ok-plan.ensures.fits, first_wide-append, fits, sym c.in_ok-plan.ensures.values, sym made) c.checked_optimum.ensures.end
