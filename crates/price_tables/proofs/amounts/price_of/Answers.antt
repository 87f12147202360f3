-- The numbers of a row fit.
use Rattle.row_core.proofs.CombinedLaws.{row_fits}
use Rattle.price_tables.proofs.amounts.price_of.Goals as goal

pub number_of-entry-requires-clause-fits : goal.number_of-entry-requires-clause-fits
number_of-entry-requires-clause-fits c = rw c.deref.ensures.value (row_fits c.args.row.now)
