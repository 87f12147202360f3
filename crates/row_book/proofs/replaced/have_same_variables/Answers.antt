-- Entry by entry.
use Rattle.std.proofs.Common.{sym}
use Rattle.row_book.proofs.ReplacedLaws.{other-many}
use Rattle.row_book.proofs.replaced.have_same_variables.Goals as goal

pub returns-then-entries-others : goal.returns-then-entries-others
returns-then-entries-others c = sym (other-many c.args.entries.now c.args.others.now c.if-entries-others.true)
