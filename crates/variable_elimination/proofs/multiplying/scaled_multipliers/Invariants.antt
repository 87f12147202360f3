-- What holds before the reduced rows that are left.
use Rattle.variable_elimination.proofs.Common.{drop, AreScaling}
use Rattle.variable_elimination.proofs.multiplying.scaled_multipliers.Given as goal

abbrev pub invariant-loop-i : goal.invariant-loop-i
invariant-loop-i l = AreScaling l.reduced.rows.items l.reduced.scales.items l.lambda (drop l.i l.reduced.rows.items) (drop l.i l.reduced.scales.items) (drop l.i l.lambda) l.made
