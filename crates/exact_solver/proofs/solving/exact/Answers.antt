-- What is carried back of the simplex's end is the method's.
use Rattle.std.proofs.Common.{subst}
use Rattle.exact_solver.specs.MethodEnds.{IsEndOf, carried_end, solved_end}
use Rattle.exact_solver.proofs.StepEnds.{end-answered, stop-answered}
use Rattle.exact_solver.proofs.solving.exact.Goals as goal

pub returns-clause-end : goal.returns-clause-end
unfolding solved_end
returns-clause-end c =
    let p = c.args.problem.now in
    end-answered _ c.carried.result (subst (λ outcome. IsEndOf (carried_end p.cost p.rows.now p.defs.now p.vars.now outcome) c.carried.result) c.in_ok-end.ensures.outcome c.carried.ensures.end)

pub returns-clause-stopped : goal.returns-clause-stopped
unfolding solved_end
returns-clause-stopped c =
    let p = c.args.problem.now in
    stop-answered _ c.carried.result (subst (λ outcome. IsEndOf (carried_end p.cost p.rows.now p.defs.now p.vars.now outcome) c.carried.result) c.in_ok-end.ensures.outcome c.carried.ensures.end)
