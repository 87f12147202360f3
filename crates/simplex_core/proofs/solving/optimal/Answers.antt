-- The values' steps all fit, or the first that doesn't is the stop.
use Rattle.simplex_core.proofs.Common.{List, sym, ap, ap₂, ◌∙◌, err_from_is_err_and, Rational, Var, LinearProgram, program_of, Outcome, IsOptimal, optimal_multipliers, values_of, state_seen}
use Rattle.written_method.specs.Runs as runs
use Rattle.simplex_core.proofs.OutcomeLaws.{first-IsHalt, outcome-fits}
use Rattle.simplex_core.proofs.solving.optimal.Goals as goal

pub returns-in_err-values-clause-stopped : goal.returns-in_err-values-clause-stopped
returns-in_err-values-clause-stopped c =
    let p : LinearProgram = program_of c.args.reduced.now in
    let stop = first-IsHalt p runs.Optimal (state_seen c.args.last.now) c.in_err-values.field-0.0 c.in_err-values.ensures.stopped in
    let q = err_from_is_err_and c.from_residual.result c.from_residual.ensures.1 in
    rw (q.1, q.2) stop

pub returns-clause-end : goal.returns-clause-end
returns-clause-end c =
    let p : LinearProgram = program_of c.args.reduced.now in
    let t = c.args.last.now.tableau.tableau in
    ap₂ {C = Outcome} (λ (v : List (Var × Rational)) (l : List Rational). IsOptimal v l c.pivots.result) c.in_ok-values.ensures.value c.in_ok-lambda.ensures
    ∙ ap {B = Outcome} (λ k. IsOptimal (values_of p t) (optimal_multipliers p t) k) c.pivots.ensures
    ∙ sym (outcome-fits p runs.Optimal (state_seen c.args.last.now) c.in_ok-values.ensures.fits)
