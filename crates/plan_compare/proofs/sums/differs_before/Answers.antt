-- Year by year.
use Rattle.plan_compare.proofs.Common.{sym, ◌∙◌, side_of, differs_in}
use Rattle.plan_compare.proofs.RangeLaws.{any_here, any_next}
use Rattle.plan_compare.proofs.sums.differs_before.Goals as goal

pub loop-year-preserved : goal.loop-year-preserved
loop-year-preserved c =
    any_next (differs_in c.args.kind (side_of c.args.here) (side_of c.args.there) c.args.var) c.loop-year.year c.args.years _ c.loop-year-test.true (sym c.differs_in.ensures ∙ c.if-differs_in.false) c.loop-year.invariant

pub returns-then-differs_in : goal.returns-then-differs_in
returns-then-differs_in c =
    any_here (differs_in c.args.kind (side_of c.args.here) (side_of c.args.there) c.args.var) c.loop-year.year c.args.years _ c.loop-year-test.true (sym c.differs_in.ensures ∙ c.if-differs_in.true) c.loop-year.invariant
