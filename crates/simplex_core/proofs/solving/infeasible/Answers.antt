-- No number is formed that could not fit.
use Rattle.simplex_core.proofs.Common.{refl, sym, ap₂, ◌∙◌, LinearProgram, program_of, IsInfeasible, state_seen}
use Rattle.written_method.specs.Runs as runs
use Rattle.simplex_core.proofs.OutcomeLaws.{outcome-none}
use Rattle.simplex_core.proofs.solving.infeasible.Goals as goal

pub returns-clause-end : goal.returns-clause-end
returns-clause-end c =
    let p : LinearProgram = program_of c.args.reduced.now in
    ap₂ IsInfeasible c.in_ok-lambda.ensures c.pivots.ensures ∙ sym (outcome-none p runs.Infeasible (state_seen c.args.last.now) refl)
