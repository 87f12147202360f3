-- The variables so far are counted.
use Rattle.row_problem.proofs.Common.{◌≡◌, ◌*◌, ◌≤◌, take, column_count}
use Rattle.row_problem.proofs.sizes.column_count.Given as goal

abbrev pub invariant-loop-var : goal.invariant-loop-var
invariant-loop-var l = (l.count ≡ column_count (take l.var-index l.vars)) × (l.count ≤ 2 * l.var-index)
