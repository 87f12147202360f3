-- What is carried back is what the check asks for, and its steps come before those of the check.
use Rattle.row_problem.proofs.Common.{◌∙◌, refl, false, length, map, ap, sym, length-map, err_from_is_err_and, first_wide-append, value_of, inequality_of, stop_of}
use Rattle.row_problem.proofs.CompletePlans.{multipliers-named}
use Rattle.row_problem.proofs.FoundWords.{found-refutation}
use Rattle.row_problem.proofs.OverLaws.{some-over}
use Rattle.exact_solver.proofs.StepEnds.{of-part, stops-by}
use Rattle.exact_solver.proofs.carrying.refutation.Goals as goal

pub carry_multipliers-requires-clause-counted : goal.carry_multipliers-requires-clause-counted
carry_multipliers-requires-clause-counted c =
    sym (length-map c.entries.result.now value_of) ∙ ap length c.entries.ensures ∙ c.requires.ended.0 ∙ length-map c.args.problem.now.reduced.now.rows.items inequality_of

pub returns-in_err-multipliers-clause-end : goal.returns-in_err-multipliers-clause-end
returns-in_err-multipliers-clause-end c =
    let e = c.in_err-multipliers.field-0.0 in
    let q = err_from_is_err_and c.from_residual.result c.from_residual.ensures.1 in
    rw (q.1, q.2) (stops-by _ (stop_of e) _ (of-part _ e (rw c.entries.ensures at c.in_err-multipliers.ensures.stopped)) (λ place h. rw (first_wide-append, h) refl))

pub checked_refutation-requires-clause-found : goal.checked_refutation-requires-clause-found
checked_refutation-requires-clause-found c =
    let p = c.args.problem.now in
    let fs = c.entries.result.now in
    found-refutation p.rows.now p.vars.now p.reduced.now fs c.in_ok-multipliers.multipliers c.multiplier_laws.ensures.some (some-over fs) (rw c.entries.ensures c.requires.ended.1) (c.in_ok-multipliers.ensures.refutes refl)

pub checked_refutation-requires-clause-named : goal.checked_refutation-requires-clause-named
checked_refutation-requires-clause-named c =
    let p = c.args.problem.now in
    multipliers-named false p.rows.now p.defs.now (map value_of c.entries.result.now) c.in_ok-multipliers.multipliers c.in_ok-multipliers.ensures.multipliers c.multiplier_laws.ensures.ascending

pub returns-clause-end : goal.returns-clause-end
returns-clause-end c =
    let carried = c.in_ok-multipliers.ensures in
    let fits = rw c.entries.ensures at carried.fits in
    let made = rw c.entries.ensures at carried.multipliers in
    rw (first_wide-append, fits, sym made) c.checked_refutation.ensures.end
