-- The entries so far, and what is left of both lines.
use Rattle.std.proofs.Common.{[], ◌≡◌, ◌+◌, ◌-◌, drop, length}
use Rattle.decimal_solver.proofs.Words.{merged, entries_seen}
use Rattle.decimal_solver.proofs.clearing.merged.Given as goal

abbrev pub invariant-loop-made : goal.invariant-loop-made
invariant-loop-made l =
    merged l.q [] (entries_seen l.line) (entries_seen l.pivot) ≡ merged l.q (entries_seen l.made.items) (entries_seen (drop l.left l.line)) (entries_seen (drop l.right l.pivot))

abbrev pub decreases-loop-made : goal.decreases-loop-made
decreases-loop-made l = (length l.line - l.left) + (length l.pivot - l.right)
