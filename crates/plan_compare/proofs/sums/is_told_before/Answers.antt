-- Year by year.
use Rattle.plan_compare.proofs.Common.{sym, ◌∙◌, side_of, is_told_in}
use Rattle.plan_compare.proofs.RangeLaws.{any_next}
use Rattle.plan_compare.proofs.sums.is_told_before.Goals as goal

pub loop-year-preserved : goal.loop-year-preserved
loop-year-preserved c =
    any_next (is_told_in (side_of c.args.side) c.args.var) c.loop-year.year c.args.years _ c.loop-year-test.true (sym c.is_told_in.ensures ∙ c.if-is_told_in.false) c.loop-year.invariant
