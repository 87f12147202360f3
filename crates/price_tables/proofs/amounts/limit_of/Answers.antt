-- The numbers of a row fit.
use Rattle.std.proofs.Common.{sym, subst}
use Rattle.exact_num.specs.Range.{InRange}
use Rattle.exact_num.proofs.RangeLaws.{back_in_range}
use Rattle.row_core.proofs.CombinedLaws.{rhs_fits, row_fits}
use Rattle.price_tables.proofs.amounts.limit_of.Goals as goal

pub number_of-entry-requires-clause-fits : goal.number_of-entry-requires-clause-fits
number_of-entry-requires-clause-fits c = rw c.deref.ensures.value (row_fits c.args.row.now)

pub ratio-requires-clause-num_fits : goal.ratio-requires-clause-num_fits
ratio-requires-clause-num_fits c =
    let fits = rhs_fits c.args.row.now in
    subst InRange (sym (back_in_range c.args.row.now.rhs fits)) fits
