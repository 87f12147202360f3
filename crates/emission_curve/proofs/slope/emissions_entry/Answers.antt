-- The numbers of a row fit.
use Rattle.row_problem.proofs.Common.{row_fits}
use Rattle.emission_curve.proofs.slope.emissions_entry.Goals as goal

pub number_of-requires-clause-fits : goal.number_of-requires-clause-fits
number_of-requires-clause-fits c = rw c.deref.ensures.value (row_fits c.args.row.now)
