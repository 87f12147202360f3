-- What holds before the definitions among the rows that are left.
use Rattle.variable_elimination.proofs.Common.{drop, definitions_of, AreTriangular, IsLifting}
use Rattle.variable_elimination.proofs.lifting.lift_values.Given as goal

abbrev pub invariant-loop-i : goal.invariant-loop-i
invariant-loop-i l = record {
  so_far : IsLifting l.goal (definitions_of l.rows l.defs) (definitions_of (drop l.i l.rows) (drop l.i l.defs)) l.values l.lifted;
  triangular : AreTriangular (definitions_of (drop l.i l.rows) (drop l.i l.defs));
}
