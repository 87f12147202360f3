-- The choice so far, and the rows that are left.
use Rattle.row_problem.proofs.Common.{None, ℕ, Option, drop, fold}
use Rattle.decimal_solver.proofs.Words.{IsFolded, Candidate, with_candidate, chosen_seen, rows_seen}
use Rattle.decimal_solver.proofs.choosing.leaving_from.Given as goal

abbrev pub invariant-loop-row : goal.invariant-loop-row
invariant-loop-row l =
    IsFolded {S = ℕ × Option Candidate} (fold (with_candidate l.x0 l.column) (0, None) (rows_seen l.rows)) (with_candidate l.x0 l.column) (l.row, chosen_seen l.chosen) (rows_seen (drop l.row l.rows))
