-- The check stops where its first number that doesn't fit is.
use Rattle.row_problem.proofs.Common.{refl, err_from_is_err_and}
use Rattle.exact_solver.proofs.StepEnds.{stops-by}
use Rattle.exact_solver.proofs.checking.checked_refutation.Goals as goal

pub returns-in_err-accepted_refutation-clause-end : goal.returns-in_err-accepted_refutation-clause-end
returns-in_err-accepted_refutation-clause-end c =
    let q = err_from_is_err_and c.from_residual.result c.from_residual.ensures.1 in
    rw (q.1, q.2) (stops-by _ c.in_err-accepted_refutation.field-0.0 _ (c.in_err-accepted_refutation.ensures.found c.requires.found) (λ place h. rw h refl))

pub returns-clause-end : goal.returns-clause-end
returns-clause-end c = rw c.in_ok-accepted_refutation.ensures.refutation.pass.fit refl
