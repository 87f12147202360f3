-- The multipliers of the plan that was found make a line below all plans.
use Rattle.row_problem.proofs.Common.{sym, subst, IfSome, value_of, IsProvedWithin}
use Rattle.certified_answers.specs.Answers.{IsFoundBy}
use Rattle.std.proofs.lemmas.Option.{IfSome_then}
use Rattle.emission_curve.specs.Points.{EndIsOf}
use Rattle.emission_curve.proofs.LineLaws.{rounded-worth}
use Rattle.emission_curve.proofs.rounding.round_limit.Goals as goal

pub returns-in-Some-Optimal-clause-worth : goal.returns-in-Some-Optimal-clause-worth
returns-in-Some-Optimal-clause-worth g c =
    let rows = c.args.rows.now in
    let vars = c.args.vars.now in
    let w = c.in-Some-Optimal in
    let found = subst (λ found. IfSome found (IsFoundBy rows vars c.args.ppm c.args.pivots)) w.is c.in_ok-plan.ensures in
    let proved = subst (IsProvedWithin rows vars c.args.ppm) w.field-0-is found.proved in
    IfSome_then c.line.result c.line.ensures.line
    (λ point is.
    subst (EndIsOf rows vars c.args.limit) (sym is)
    (rounded-worth rows c.args.defs.now vars c.args.limit w.plan w.multipliers (value_of w.cost) (value_of w.bound) c.requires.problem proved.0 proved.1))
