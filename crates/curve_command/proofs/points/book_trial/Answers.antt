use Rattle.curve_command.proofs.points.book_trial.Goals as goal

pub returns-in-Some : goal.returns-in-Some
returns-in-Some g c = rw c.in-Some.is at (c.in_ok-point-in-Rounded.ensures c.args.sets.now)
