-- What the call says of the rows' definitions, in the words of a problem.
use Rattle.row_problem.proofs.Common.{defined, definitions_of, carried_plan, plan_steps}
use Rattle.row_problem.proofs.CarriedWords.{plan_answer}
use Rattle.row_problem.proofs.carrying.carry_plan.Goals as goal

pub returns-clause-worth : goal.returns-clause-worth
returns-clause-worth c =
    let p = c.args.problem.now in
    let program = c.requires in
    plan_answer p.rows.now p.vars.now (defined (definitions_of p.rows.now p.defs.now)) p.reduced.now c.args.values.now c.lift_plan.result c.lift_plan.ensures.others (c.lift_plan.ensures.signs program.problem.signs)
    (c.lift_plan.ensures.holds p.reduced.now.rows.items p.reduced.now.scales.items program.reductions program.part.without)

pub returns-clause-values : goal.returns-clause-values
unfolding carried_plan
returns-clause-values c = c.lift_plan.ensures.values

pub returns-clause-fits : goal.returns-clause-fits
unfolding plan_steps
returns-clause-fits c = c.lift_plan.ensures.fits

pub returns-clause-stopped : goal.returns-clause-stopped
unfolding plan_steps
returns-clause-stopped c = c.lift_plan.ensures.stopped
