use Rattle.solve_command.proofs.readback.solution_fractions.Goals as goal

pub returns-in-Optimal : goal.returns-in-Optimal
returns-in-Optimal c = rw c.in-Optimal.is (c.plan_fractions.ensures, c.multiplier_fractions.ensures)

pub returns-in-Infeasible : goal.returns-in-Infeasible
returns-in-Infeasible c = rw c.in-Infeasible.is c.multiplier_fractions-in-Infeasible.ensures

pub returns-in-Unbounded : goal.returns-in-Unbounded
returns-in-Unbounded c = rw c.in-Unbounded.is (c.plan_fractions-in-Unbounded.ensures, c.plan_fractions-in-Unbounded-2.ensures)
