-- The least cost and the multipliers that prove it make a line below all plans.
use Rattle.row_problem.proofs.Common.{sym, subst, value_of, IsProved}
use Rattle.emission_curve.specs.Points.{EndIsOf}
use Rattle.emission_curve.proofs.LineLaws.{optimum-worth}
use Rattle.emission_curve.proofs.exact.solve_limit.Goals as goal

pub returns-in-Ok-Optimal-clause-worth : goal.returns-in-Ok-Optimal-clause-worth
returns-in-Ok-Optimal-clause-worth c =
    let rows = c.args.rows.now in
    let vars = c.args.vars.now in
    let w = c.in-Ok-Optimal in
    let proved = subst (IsProved rows vars) w.field-0-is w.ensures.proved in
    subst (EndIsOf rows vars c.args.limit) (sym c.optimum.ensures)
    (optimum-worth rows c.args.defs.now vars c.args.limit w.field-0-0 w.multipliers (value_of w.cost) (value_of w.field-0-3) c.requires.problem proved.0 proved.1 proved.2.same)
