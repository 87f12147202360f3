-- Too large, or the point of the exact method.
use Rattle.curve_command.proofs.points.sized_trial.Goals as goal

pub returns-in-Some : goal.returns-in-Some
returns-in-Some g c = rw (c.in-Some.is, c.from.ensures) at c.in_ok-answer.ensures

pub exact_point-requires-clause-within : goal.exact_point-requires-clause-within
exact_point-requires-clause-within g c = rw c.in-None.is at c.in_ok-answer.ensures
