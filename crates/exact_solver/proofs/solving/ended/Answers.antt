-- The simplex stops where the method does, and its end has what it says.
use Rattle.row_problem.proofs.Common.{subst, program_of, solved}
use Rattle.simplex_core.specs.Outcomes.{IsHalt}
use Rattle.exact_solver.specs.MethodEnds.{solved_end}
use Rattle.exact_solver.proofs.SolvedLaws.{sized}
use Rattle.exact_solver.proofs.StepEnds.{stops-simplex}
use Rattle.exact_solver.proofs.solving.ended.Goals as goal

pub returns-in-Ok-clause-ended : goal.returns-in-Ok-clause-ended
returns-in-Ok-clause-ended c = (sized (program_of c.args.problem.now.reduced.now) c.args.pivots c.in-Ok.end c.in-Ok.ensures.end, c.in-Ok.ensures.proved c.requires.posed)

pub returns-in-Err-clause-stopped : goal.returns-in-Err-clause-stopped
unfolding solved_end
returns-in-Err-clause-stopped c =
    let p = c.args.problem.now in
    let halted = subst (λ program. IsHalt (solved c.args.pivots program) c.in-Err.halt) c.requires.left c.in-Err.ensures.stopped in
    rw c.stop_at.ensures (stops-simplex p.cost p.rows.now p.defs.now p.vars.now _ c.in-Err.halt halted)
