-- The rows so far, and those that are left.
use Rattle.row_problem.proofs.Common.{[], ◌≡◌, map, drop, length, inequality_of}
use Rattle.decimal_solver.proofs.Words.{IsLeft, first_rows, with_row, rows_seen}
use Rattle.decimal_solver.proofs.starting.first_rows.Given as goal

abbrev pub invariant-loop-position : goal.invariant-loop-position
invariant-loop-position l = record {
  same : IsLeft (first_rows l.layout.places.items l.layout.width l.layout.rows [] (map inequality_of l.rows)) (with_row l.layout.places.items l.layout.width l.layout.rows) (rows_seen l.made.items) (map inequality_of (drop l.position l.rows));
  counted : length l.made.items ≡ l.position;
}
