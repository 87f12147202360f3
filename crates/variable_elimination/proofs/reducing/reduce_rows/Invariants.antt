-- What holds before the other rows among those that are left.
use Rattle.variable_elimination.proofs.Common.{drop, others_of, AreSoFar}
use Rattle.variable_elimination.proofs.reducing.reduce_rows.Given as goal

abbrev pub invariant-loop-i : goal.invariant-loop-i
invariant-loop-i l = AreSoFar l.definitions (others_of l.rows l.defs) (others_of (drop l.i l.rows) (drop l.i l.defs)) l.kept.items l.scales.items
