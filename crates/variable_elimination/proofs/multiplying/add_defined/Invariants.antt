-- The last definitions are done.
use Rattle.variable_elimination.proofs.Common.{◌-◌, length, drop, AreDone, values_in}
use Rattle.variable_elimination.proofs.multiplying.add_defined.Given as goal

abbrev pub invariant-loop-done : goal.invariant-loop-done
invariant-loop-done l = AreDone l.with_cost l.rows (drop (length l.rows - l.done) l.rows) (drop (length l.rows - l.done) l.defs) (values_in l.fn.made) l.made
