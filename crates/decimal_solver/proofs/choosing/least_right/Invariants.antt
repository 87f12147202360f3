-- The choice so far, and the rows that are left.
use Rattle.row_problem.proofs.Common.{None, ℤ, ℕ, Option, pos, drop, fold}
use Rattle.decimal_solver.proofs.Words.{IsFolded, lesser, rows_seen}
use Rattle.decimal_solver.proofs.choosing.least_right.Given as goal

abbrev pub invariant-loop-row : goal.invariant-loop-row
invariant-loop-row l = IsFolded {S = ℕ × ℤ × Option ℕ} (fold lesser (0, pos 0, None) (rows_seen l.rows)) lesser (l.row, l.best, l.chosen) (rows_seen (drop l.row l.rows))
