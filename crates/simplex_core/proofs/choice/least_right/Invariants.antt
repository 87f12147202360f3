-- The choice so far, and the right sides that are left.
use Rattle.simplex_core.proofs.Common.{◌≡◌, pos, drop, InRange, least_right_from, right_sides}
use Rattle.simplex_core.proofs.choice.least_right.Given as goal

abbrev pub invariant-loop-row : goal.invariant-loop-row
invariant-loop-row l = record {
  chosen : least_right_from 0 0 (pos 0) (right_sides l.tableau.tableau) ≡ least_right_from l.row l.chosen l.best (drop l.row (right_sides l.tableau.tableau));
  range : InRange l.best;
}
