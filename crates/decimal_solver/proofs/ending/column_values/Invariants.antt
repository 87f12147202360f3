-- The values so far, and the rows that are left.
use Rattle.row_problem.proofs.Common.{pos, map, replicate, drop, whole, value_of}
use Rattle.decimal_solver.proofs.Words.{column_values, with_basic, IsFolded, rows_seen}
use Rattle.decimal_solver.proofs.ending.column_values.Given as goal

abbrev pub invariant-loop-row : goal.invariant-loop-row
invariant-loop-row l = IsFolded (column_values (replicate l.columns (whole (pos 0))) (rows_seen l.rows)) with_basic (map value_of l.values.items) (rows_seen (drop l.row-index l.rows))
