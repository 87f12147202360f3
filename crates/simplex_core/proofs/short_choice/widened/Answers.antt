use Rattle.int_tableau.proofs.NarrowLaws.{back_widened}
use Rattle.simplex_core.proofs.short_choice.widened.Goals as goal

pub returns-clause-right : goal.returns-clause-right
returns-clause-right c = back_widened c.args.a.right c.args.a.right_narrow

pub returns-clause-entry : goal.returns-clause-entry
returns-clause-entry c = back_widened c.args.a.entry c.args.a.entry_narrow
