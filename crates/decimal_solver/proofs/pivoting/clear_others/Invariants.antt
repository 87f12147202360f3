-- The rows so far are cleared, and the others are as they were.
use Rattle.std.proofs.Common.{[], ◌≡◌, length, take, drop}
use Rattle.decimal_solver.proofs.Words.{IsLeft, others_cleared, with_cleared, line_seen, rows_seen}
use Rattle.decimal_solver.proofs.pivoting.clear_others.Given as goal

abbrev pub invariant-loop-position : goal.invariant-loop-position
invariant-loop-position l = record {
  same : IsLeft (others_cleared l.row l.column (line_seen l.pivot) [] (rows_seen l.initial.other-items)) (with_cleared l.row l.column (line_seen l.pivot)) (rows_seen (take l.position l.other-items)) (rows_seen (drop l.position l.other-items));
  counted : length l.other-items ≡ length l.initial.other-items;
}
