-- The variables so far, and those that are left.
use Rattle.variable_elimination.proofs.Common.{◌≡◌, [], true, drop, ascends, var_cmp, cost_variables, AllAreCosts}
use Rattle.variable_elimination.proofs.costing.cost_variables.Given as goal

abbrev pub invariant-loop-def : goal.invariant-loop-def
invariant-loop-def l = record {
  made : cost_variables l.variables.items (drop l.def-index l.defs) ≡ cost_variables [] l.defs;
  ascending : ascends var_cmp l.variables.items ≡ true;
  costs : AllAreCosts l.variables.items;
}
