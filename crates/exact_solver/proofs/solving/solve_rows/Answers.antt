-- The elimination comes first.
use Rattle.row_problem.proofs.Common.{refl, err_from_is_err_and, stop_of}
use Rattle.exact_solver.specs.MethodEnds.{method_end}
use Rattle.exact_solver.proofs.StepEnds.{of-part, stops-by}
use Rattle.exact_solver.proofs.solving.solve_rows.Goals as goal

pub returns-in_err-reduced-clause-stopped : goal.returns-in_err-reduced-clause-stopped
unfolding method_end
returns-in_err-reduced-clause-stopped c =
    let q = err_from_is_err_and c.from_residual.result c.from_residual.ensures.1 in
    let e = c.in_err-reduced.field-0.0 in
    rw (q.1, q.2) (stops-by _ (stop_of e) (method_end c.args.rows.now c.args.defs.now c.args.vars.now c.args.pivots) (of-part _ e c.in_err-reduced.ensures.stopped) (λ place h. rw h refl))

pub returns-clause-end : goal.returns-clause-end
unfolding method_end
returns-clause-end c = rw c.in_ok-reduced.ensures.fits c.exact.ensures.end

pub returns-clause-stopped : goal.returns-clause-stopped
unfolding method_end
returns-clause-stopped c = rw c.in_ok-reduced.ensures.fits c.exact.ensures.stopped
