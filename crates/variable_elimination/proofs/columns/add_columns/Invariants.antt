use Rattle.variable_elimination.proofs.Common.{◌≡◌, ◌++◌, drop, filter, variables_of, is_column}
use Rattle.variable_elimination.proofs.columns.add_columns.Given as goal

-- with those of the entries that are left, the columns so far are those of the row
abbrev pub invariant-loop-variable : goal.invariant-loop-variable
invariant-loop-variable l = l.columns.items ++ filter is_column (variables_of (drop l.variable-index l.row.entries.items)) ≡ l.fn.columns.items ++ filter is_column (variables_of l.row.entries.items)
