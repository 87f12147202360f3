use Rattle.command_answers.proofs.places.push_place.Goals as goal

pub returns-in-LiftMultiplier : goal.returns-in-LiftMultiplier
returns-in-LiftMultiplier c = rw c.in-LiftMultiplier.is c.push_with_row-in-LiftMultiplier.ensures
