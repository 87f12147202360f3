-- Whether one of the years differs is whether one of those that are left does.
use Rattle.plan_compare.proofs.Common.{◌≡◌, ◌-◌, list_any, range_with_len, side_of, differs_in}
use Rattle.plan_compare.proofs.sums.differs_before.Given as goal

abbrev pub invariant-loop-year : goal.invariant-loop-year
invariant-loop-year l =
    list_any (differs_in l.kind (side_of l.here) (side_of l.there) l.var) (range_with_len l.year (l.years - l.year))
    ≡ list_any (differs_in l.kind (side_of l.here) (side_of l.there) l.var) (range_with_len 0 l.years)
