-- The choice so far, and the entries that are left.
use Rattle.row_problem.proofs.Common.{None, ℤ, ℕ, Option, pos, drop, fold}
use Rattle.decimal_solver.proofs.Words.{IsFolded, entered, entries_seen}
use Rattle.decimal_solver.proofs.choosing.entering_from.Given as goal

abbrev pub invariant-loop-entry : goal.invariant-loop-entry
invariant-loop-entry l =
    IsFolded {S = ℤ × Option ℕ} (fold (entered l.greedy l.limit) (pos 10, None) (entries_seen l.entries)) (entered l.greedy l.limit) (l.best, l.chosen) (entries_seen (drop l.entry-index l.entries))
