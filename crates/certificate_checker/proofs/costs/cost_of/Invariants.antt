-- The sum so far and the variables that are left give the sum of all; and form what is left of what all form.
use Rattle.certificate_checker.proofs.Common.{◌≡◌, pos, drop, all_fit, whole, value_of, var_cmp, value_in, sum_from, sum_from_formed, cost_entries, number_of}
use Rattle.certificate_checker.proofs.costs.cost_of.Given as goal

abbrev pub invariant-loop-variable : goal.invariant-loop-variable
invariant-loop-variable l = record {
  so_far : sum_from (value_in var_cmp l.plan) (value_of l.sum) (cost_entries (number_of l.cost) (drop l.variable-index l.vars)) ≡ sum_from (value_in var_cmp l.plan) (whole (pos 0)) (cost_entries (number_of l.cost) l.vars);
  formed : all_fit (sum_from_formed (value_in var_cmp l.plan) (whole (pos 0)) (cost_entries (number_of l.cost) l.vars)) ≡ all_fit (sum_from_formed (value_in var_cmp l.plan) (value_of l.sum) (cost_entries (number_of l.cost) (drop l.variable-index l.vars)));
}
