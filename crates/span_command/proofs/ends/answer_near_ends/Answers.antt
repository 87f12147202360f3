use Rattle.command_answers.proofs.BookPlaces.{plan-named}
use Rattle.span_command.proofs.ends.answer_near_ends.Goals as goal

pub near_text-requires-clause-low : goal.near_text-requires-clause-low
near_text-requires-clause-low c = plan-named c.args.sets.now c.args.book.now.rows c.args.book.now.vars c.requires.listed c.args.span.now.low_plan c.requires.span.low_plan.whole

pub near_text-requires-clause-high : goal.near_text-requires-clause-high
near_text-requires-clause-high c = plan-named c.args.sets.now c.args.book.now.rows c.args.book.now.vars c.requires.listed c.args.span.now.high_plan c.requires.span.high_plan.whole
