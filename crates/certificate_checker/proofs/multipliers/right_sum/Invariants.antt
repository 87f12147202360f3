-- The sum so far and the rows that are left give the sum of all; and form what is left of what all form.
use Rattle.certificate_checker.proofs.Common.{◌≡◌, pos, drop, all_fit, whole, value_of, sum_from, sum_from_formed, row_name_cmp, value_in, right_sides}
use Rattle.certificate_checker.proofs.multipliers.right_sum.Given as goal

abbrev pub invariant-loop-row : goal.invariant-loop-row
invariant-loop-row l = record {
  so_far : sum_from (value_in row_name_cmp l.multipliers) (value_of l.sum) (right_sides (drop l.row-index l.rows)) ≡ sum_from (value_in row_name_cmp l.multipliers) (whole (pos 0)) (right_sides l.rows);
  formed : all_fit (sum_from_formed (value_in row_name_cmp l.multipliers) (whole (pos 0)) (right_sides l.rows)) ≡ all_fit (sum_from_formed (value_in row_name_cmp l.multipliers) (value_of l.sum) (right_sides (drop l.row-index l.rows)));
}
