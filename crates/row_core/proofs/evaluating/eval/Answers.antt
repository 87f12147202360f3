-- The right side of a row fits.
use Rattle.row_core.proofs.Common.{sym, subst, InRange, back_in_range}
use Rattle.row_core.proofs.CombinedLaws.{rhs_fits}
use Rattle.row_core.proofs.evaluating.eval.Goals as goal

pub eval_against-requires : goal.eval_against-requires
eval_against-requires c =
    let row = c.args.row.now in
    subst InRange (sym (back_in_range row.rhs (rhs_fits row))) (rhs_fits row)
