-- The rows of a problem are listed with their variables.
use Rattle.rounded_solver.proofs.ListedLaws.{listed-problem}
use Rattle.emission_curve.proofs.rounding.guess_limit.Goals as goal

pub guessed_rows-requires : goal.guessed_rows-requires
guessed_rows-requires g c = listed-problem c.args.rows.now c.args.defs.now c.args.vars.now c.requires.problem
