-- Whether one of the years has such a value is whether one of those that are left has.
use Rattle.plan_compare.proofs.Common.{◌≡◌, ◌-◌, list_any, range_with_len, side_of, is_told_in}
use Rattle.plan_compare.proofs.sums.is_told_before.Given as goal

abbrev pub invariant-loop-year : goal.invariant-loop-year
invariant-loop-year l =
    list_any (is_told_in (side_of l.side) l.var) (range_with_len l.year (l.years - l.year)) ≡ list_any (is_told_in (side_of l.side) l.var) (range_with_len 0 l.years)
