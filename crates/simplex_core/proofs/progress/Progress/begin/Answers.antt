-- x0 is there where some right side is negative.
use Rattle.simplex_core.proofs.Common.{ap, ap₂, ◌∙◌, first_phase, LinearProgram, program_of, State, Phase, has_x0, Counted}
use Rattle.simplex_core.proofs.StepLaws.{has_x0-first}
use Rattle.simplex_core.proofs.progress.Progress.begin.Goals as goal

pub returns : goal.returns
returns c =
    let p : LinearProgram = program_of c.args.reduced.now in
    let there = c.has_x0.ensures ∙ ap (λ (t : Counted). has_x0 t.tableau) c.in_ok-tableau.ensures ∙ has_x0-first p in
    ap₂ {C = State} (λ (t : Counted) (f : Phase). record { tableau = t.tableau; phase = f; pivots = t.pivots; degenerate = 0 }) c.in_ok-tableau.ensures (c.first_phase-phase.ensures ∙ ap first_phase there)
