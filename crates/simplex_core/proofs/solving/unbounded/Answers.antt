-- The steps of the values and of the direction all fit, or the first that doesn't is the stop.
use Rattle.simplex_core.proofs.Common.{List, sym, ap, ap₂, ◌∙◌, err_from_is_err_and, Rational, Var, LinearProgram, program_of, Outcome, IsUnbounded, direction_of, direction_steps, value_steps, values_of, state_seen}
use Rattle.written_method.specs.Runs as runs
use Rattle.simplex_core.proofs.OutcomeLaws.{first-IsHalt, left-IsFirst, right-IsFirst, unbounded-fits}
use Rattle.simplex_core.proofs.solving.unbounded.Goals as goal

pub returns-in_err-values-clause-stopped : goal.returns-in_err-values-clause-stopped
returns-in_err-values-clause-stopped c =
    let p : LinearProgram = program_of c.args.reduced.now in
    let t = c.args.last.now.tableau.tableau in
    let stop = first-IsHalt p (runs.Unbounded c.args.growing) (state_seen c.args.last.now) c.in_err-values.field-0.0
    (left-IsFirst (value_steps p t) (direction_steps p t c.args.growing) c.in_err-values.field-0.0 c.in_err-values.ensures.stopped) in
    let q = err_from_is_err_and c.from_residual.result c.from_residual.ensures.1 in
    rw (q.1, q.2) stop

pub returns-in_err-direction-clause-stopped : goal.returns-in_err-direction-clause-stopped
returns-in_err-direction-clause-stopped c =
    let p : LinearProgram = program_of c.args.reduced.now in
    let t = c.args.last.now.tableau.tableau in
    let stop = first-IsHalt p (runs.Unbounded c.args.growing) (state_seen c.args.last.now) c.in_err-direction.field-0.0
    (right-IsFirst (value_steps p t) (direction_steps p t c.args.growing) c.in_err-direction.field-0.0 c.in_ok-values.ensures.fits c.in_err-direction.ensures.stopped) in
    let q = err_from_is_err_and c.from_residual-in_err-direction.result c.from_residual-in_err-direction.ensures.1 in
    rw (q.1, q.2) stop

pub returns-clause-end : goal.returns-clause-end
returns-clause-end c =
    let p : LinearProgram = program_of c.args.reduced.now in
    let t = c.args.last.now.tableau.tableau in
    ap₂ {C = Outcome} (λ (v d : List (Var × Rational)). IsUnbounded v d c.pivots.result) c.in_ok-values.ensures.value c.in_ok-direction.ensures.value
    ∙ ap {B = Outcome} (λ k. IsUnbounded (values_of p t) (direction_of p t c.args.growing) k) c.pivots.ensures
    ∙ sym (unbounded-fits p c.args.growing (state_seen c.args.last.now) c.in_ok-values.ensures.fits c.in_ok-direction.ensures.fits)
