use Rattle.command_answers.proofs.BookPlaces.{multipliers-named, plan-named}
use Rattle.solve_command.proofs.texts.proof_of.Goals as goal

pub optimum_text-requires-clause-plan : goal.optimum_text-requires-clause-plan
optimum_text-requires-clause-plan c =
    plan-named c.args.sets.now c.args.book.now.rows c.args.book.now.vars c.requires.listed c.in-Optimal.plan (rw c.in-Optimal.is at c.requires.complete)

pub optimum_text-requires-clause-multipliers : goal.optimum_text-requires-clause-multipliers
optimum_text-requires-clause-multipliers c =
    multipliers-named c.args.sets.now c.args.book.now.rows c.args.book.now.vars c.requires.listed c.in-Optimal.multipliers (rw c.in-Optimal.is at c.requires.named)

pub refutation_text-requires : goal.refutation_text-requires
refutation_text-requires c =
    multipliers-named c.args.sets.now c.args.book.now.rows c.args.book.now.vars c.requires.listed c.in-Infeasible.multipliers (rw c.in-Infeasible.is at c.requires.named)

pub descent_text-requires-clause-plan : goal.descent_text-requires-clause-plan
descent_text-requires-clause-plan c =
    plan-named c.args.sets.now c.args.book.now.rows c.args.book.now.vars c.requires.listed c.in-Unbounded.plan (rw c.in-Unbounded.is at c.requires.complete).0

pub descent_text-requires-clause-direction : goal.descent_text-requires-clause-direction
descent_text-requires-clause-direction c =
    plan-named c.args.sets.now c.args.book.now.rows c.args.book.now.vars c.requires.listed c.in-Unbounded.direction (rw c.in-Unbounded.is at c.requires.complete).1
