use Rattle.variable_elimination.proofs.Common.{◌≡◌, ◌++◌, drop, column_entries}
use Rattle.variable_elimination.proofs.columns.column_entries.Given as goal

-- with those of the rows that are left, the columns so far are those of all rows
abbrev pub invariant-loop-row : goal.invariant-loop-row
invariant-loop-row l = l.columns.items ++ column_entries (drop l.row-index l.rows) ≡ column_entries l.rows
