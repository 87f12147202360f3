-- What holds before the definitions among the rows that are left.
use Rattle.variable_elimination.proofs.Common.{drop, definitions_of, IsSoFar}
use Rattle.variable_elimination.proofs.definitions.expand_definitions.Given as goal

abbrev pub invariant-loop-i : goal.invariant-loop-i
invariant-loop-i l = IsSoFar (definitions_of l.rows l.defs) (definitions_of (drop l.i l.rows) (drop l.i l.defs)) l.definitions
