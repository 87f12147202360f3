-- What the call says of the rows' definitions, in the words of a problem.
use Rattle.row_problem.proofs.Common.{defined, definitions_of, carried_direction, direction_steps}
use Rattle.row_problem.proofs.CarriedWords.{direction_answer}
use Rattle.row_problem.proofs.carrying.carry_direction.Goals as goal

pub returns-clause-worth : goal.returns-clause-worth
returns-clause-worth c =
    let p = c.args.problem.now in
    let program = c.requires in
    direction_answer p.rows.now p.vars.now (defined (definitions_of p.rows.now p.defs.now)) p.reduced.now c.args.values.now c.lift_direction.result c.lift_direction.ensures.others (c.lift_direction.ensures.signs program.problem.signs)
    (c.lift_direction.ensures.holds p.reduced.now.rows.items p.reduced.now.scales.items program.reductions program.part.without)

pub returns-clause-values : goal.returns-clause-values
unfolding carried_direction
returns-clause-values c = c.lift_direction.ensures.values

pub returns-clause-fits : goal.returns-clause-fits
unfolding direction_steps
returns-clause-fits c = c.lift_direction.ensures.fits

pub returns-clause-stopped : goal.returns-clause-stopped
unfolding direction_steps
returns-clause-stopped c = c.lift_direction.ensures.stopped
