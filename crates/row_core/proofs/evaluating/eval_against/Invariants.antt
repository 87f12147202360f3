-- The sum so far and the other entries give the sum of all; and form what is left of what all form.
use Rattle.row_core.proofs.Common.{◌≡◌, pos, drop, all_fit, whole, value_of, var_cmp, value_in, sum_from, sum_from_formed}
use Rattle.row_core.proofs.evaluating.eval_against.Given as goal

abbrev pub invariant-loop-entry : goal.invariant-loop-entry
invariant-loop-entry l = record {
  so_far : sum_from (value_in var_cmp l.plan) (value_of l.sum) (drop l.entry-index l.row.entries.items) ≡ sum_from (value_in var_cmp l.plan) (whole (pos 0)) l.row.entries.items;
  formed : all_fit (sum_from_formed (value_in var_cmp l.plan) (whole (pos 0)) l.row.entries.items) ≡ all_fit (sum_from_formed (value_in var_cmp l.plan) (value_of l.sum) (drop l.entry-index l.row.entries.items));
}
