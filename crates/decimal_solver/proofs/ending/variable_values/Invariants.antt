-- The values so far, and the variables that are left.
use Rattle.row_problem.proofs.Common.{[], ℕ, ◌≡◌, ◌+◌, ◌++◌, map, drop, value_of, keys_of, valued, width_of, Values}
use Rattle.decimal_solver.proofs.Words.{with_value, IsLeft, folded}
use Rattle.decimal_solver.proofs.ending.variable_values.Given as goal

abbrev pub invariant-loop-variable : goal.invariant-loop-variable
invariant-loop-variable l = record {
  same : IsLeft (folded {S = ℕ × Values} (with_value (map value_of l.values)) (0, []) l.variables) (with_value (map value_of l.values)) (l.column, map valued l.made.items) (drop l.variable-index l.variables);
  keys : l.variables ≡ keys_of (map valued l.made.items) ++ drop l.variable-index l.variables;
  width : width_of l.variables ≡ l.column + width_of (drop l.variable-index l.variables);
}
