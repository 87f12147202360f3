use Rattle.simplex_core.proofs.Common.{refl, ap, ◌∙◌, LinearProgram, program_of, outcome_of, ending_seen, state_seen}
use Rattle.written_method.specs.Runs as runs
use Rattle.simplex_core.proofs.OutcomeLaws.{outcome-none}
use Rattle.simplex_core.proofs.solving.end_of.Goals as goal

pub returns-in-PivotDue-clause-stopped : goal.returns-in-PivotDue-clause-stopped
returns-in-PivotDue-clause-stopped c =
    let p : LinearProgram = program_of c.args.reduced.now in
    ap (λ f. outcome_of p (runs.Ended (ending_seen f) (state_seen c.args.finished.now.last))) c.in-PivotDue.is ∙ outcome-none p runs.PivotDue (state_seen c.args.finished.now.last) refl
