-- The rows so far are counted.
use Rattle.row_problem.proofs.Common.{◌≡◌, ◌≤◌, take, inequality_count}
use Rattle.row_problem.proofs.sizes.inequality_count.Given as goal

abbrev pub invariant-loop-row : goal.invariant-loop-row
invariant-loop-row l = (l.count ≡ inequality_count (take l.row-index l.rows)) × (l.count ≤ l.row-index)
