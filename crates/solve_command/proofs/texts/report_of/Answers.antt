use Rattle.solve_command.proofs.Common.{IfOk-weaker, plan-named}
use Rattle.solve_command.proofs.texts.report_of.Goals as goal

pub unbounded_report-requires : goal.unbounded_report-requires
unbounded_report-requires c =
    plan-named c.args.sets.now c.args.book.now.rows c.args.book.now.vars c.requires.listed c.in-Unbounded.direction (rw c.in-Unbounded.is at c.requires.complete).1

pub returns-in-Optimal-clause-text : goal.returns-in-Optimal-clause-text
returns-in-Optimal-clause-text c = IfOk-weaker c.report.result _ _ (λ text is. rw c.in-Optimal.is (rw (c.vars.ensures.variables, c.rows.ensures.rows) at is)) c.report.ensures.text
