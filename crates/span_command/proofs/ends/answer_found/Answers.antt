use Rattle.span_command.proofs.Common.{value_of, plan-named}
use Rattle.span_command.proofs.BuiltCapacities.{direction-named}
use Rattle.span_command.proofs.ends.answer_found.Goals as goal

pub span_text-requires-clause-low : goal.span_text-requires-clause-low
span_text-requires-clause-low c = plan-named c.args.sets.now c.args.book.now.rows c.args.book.now.vars c.requires.listed c.args.span.now.low_plan c.requires.span.low_plan.whole

pub span_text-requires-clause-high : goal.span_text-requires-clause-high
span_text-requires-clause-high c = plan-named c.args.sets.now c.args.book.now.rows c.args.book.now.vars c.requires.listed c.args.span.now.high_plan c.requires.span.high_plan.whole

pub span_text-requires-clause-direction : goal.span_text-requires-clause-direction
span_text-requires-clause-direction c =
    let span = c.args.span.now in
    direction-named c.args.sets.now c.args.book.now.rows c.args.book.now.vars c.requires.listed (value_of c.args.limit) c.args.var span.high_plan span.high span.direction c.requires.span.high
