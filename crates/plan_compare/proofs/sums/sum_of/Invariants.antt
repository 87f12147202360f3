-- The sum so far, and the years that are left, make the whole sum.
use Rattle.plan_compare.proofs.Common.{◌≡◌, ◌-◌, map, length, range_with_len, members, year, sum_from, side_of, shown_in, sum_of}
use Rattle.plan_compare.proofs.sums.sum_of.Given as goal

abbrev pub invariant-loop-year : goal.invariant-loop-year
invariant-loop-year l =
    sum_from l.sum (map (shown_in (side_of l.side) l.var) (range_with_len l.year (length (members l.side.sets.now year) - l.year))) ≡ sum_of (side_of l.side) l.var
