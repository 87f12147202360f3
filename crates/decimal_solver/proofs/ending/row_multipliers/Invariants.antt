-- The multipliers so far, and the rows that are left.
use Rattle.row_problem.proofs.Common.{[], ◌≡◌, map, drop, length, value_of}
use Rattle.decimal_solver.proofs.Words.{row_multipliers, with_multiplier, IsLeft, number_seen, rows_seen}
use Rattle.decimal_solver.proofs.ending.row_multipliers.Given as goal

abbrev pub invariant-loop-position : goal.invariant-loop-position
invariant-loop-position l = record {
  same : IsLeft (row_multipliers (map number_seen l.numbers) l.first [] (rows_seen l.rows)) (with_multiplier (map number_seen l.numbers) l.first) (map value_of l.made.items) (rows_seen (drop l.position l.rows));
  counted : length l.made.items ≡ l.position;
}
