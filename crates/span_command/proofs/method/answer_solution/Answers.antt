use Rattle.command_answers.proofs.BookPlaces.{plan-named}
use Rattle.span_command.proofs.method.answer_solution.Goals as goal

pub unbounded_report-requires : goal.unbounded_report-requires
unbounded_report-requires c =
    plan-named c.args.sets.now c.args.book.now.rows c.args.book.now.vars c.requires.listed c.in-Unbounded.direction (rw c.in-Unbounded.is at c.requires.complete).1
