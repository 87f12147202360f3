-- What is carried back, and the checks of it.
use Rattle.row_problem.proofs.Common.{true, map, sym, ◌∙◌, err_from_is_err_and, value_of}
use Rattle.row_problem.proofs.CompletePlans.{multipliers-named, plan-complete}
use Rattle.decimal_solver.proofs.CarryLaws.{no_multipliers_carried, no_plan_carried}
use Rattle.decimal_solver.proofs.attempts.carried.Goals as goal

pub returns-in_err-plan-clause-nothing : goal.returns-in_err-plan-clause-nothing
returns-in_err-plan-clause-nothing c =
    let q = err_from_is_err_and c.from_residual.result c.from_residual.ensures.1 in
    rw (q.1, q.2) (no_plan_carried c.args.problem.now.rows.now c.args.problem.now.defs.now c.args.problem.now.vars.now c.args.ppm c.args.values.now (map value_of c.args.lambda.now) c.args.pivots c.in_err-plan.field-0.0 c.in_err-plan.ensures.stopped)

pub returns-in_err-multipliers-clause-nothing : goal.returns-in_err-multipliers-clause-nothing
returns-in_err-multipliers-clause-nothing c =
    let q = err_from_is_err_and c.from_residual-in_err-multipliers.result c.from_residual-in_err-multipliers.ensures.1 in
    rw (q.1, q.2)
    (no_multipliers_carried c.args.problem.now.rows.now c.args.problem.now.defs.now c.args.problem.now.vars.now c.args.ppm c.args.values.now (map value_of c.args.lambda.now) c.args.pivots c.in_err-multipliers.field-0.0 c.in_err-multipliers.ensures.stopped)

pub returns-clause-end : goal.returns-clause-end
returns-clause-end c = rw (c.in_ok-plan.ensures.fits, c.in_ok-multipliers.ensures.fits, sym c.in_ok-plan.ensures.values, sym c.in_ok-multipliers.ensures.multipliers) c.checked.ensures.end

pub returns-clause-nothing : goal.returns-clause-nothing
returns-clause-nothing c = rw (c.in_ok-plan.ensures.fits, c.in_ok-multipliers.ensures.fits, sym c.in_ok-plan.ensures.values, sym c.in_ok-multipliers.ensures.multipliers) c.checked.ensures.nothing

pub returns-clause-whole : goal.returns-clause-whole
returns-clause-whole c =
    let p = c.args.problem.now in
    c.checked.ensures.whole
    (plan-complete p.rows.now p.defs.now p.vars.now c.requires.problem.problem c.args.values.now (c.requires.keyed ∙ c.requires.problem.columns) c.in_ok-plan.plan c.in_ok-plan.ensures.values c.plan_laws-2.ensures.ascending)

pub returns-clause-named : goal.returns-clause-named
returns-clause-named c =
    let p = c.args.problem.now in
    c.checked.ensures.named
    (multipliers-named true p.rows.now p.defs.now (map value_of c.args.lambda.now) c.in_ok-multipliers.multipliers c.in_ok-multipliers.ensures.multipliers c.multiplier_laws.ensures.ascending)
