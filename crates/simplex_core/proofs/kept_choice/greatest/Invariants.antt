-- The choice so far, and the columns that are left.
use Rattle.simplex_core.proofs.Common.{◌≡◌, ◌-◌, ◌<◌, ◌≤◌, None, pos, length, drop, set, ◌≤ℤ◌, IfSome, InRange, greatest_from, line_of}
use Rattle.simplex_core.proofs.kept_choice.greatest.Given as goal

abbrev pub invariant-loop-column : goal.invariant-loop-column
invariant-loop-column l = record {
  chosen : greatest_from 0 (pos 0) None (set (line_of l.tableau.tableau l.home).entries l.x0 (pos 0)) ≡ greatest_from l.from l.best l.chosen (drop l.from (set (line_of l.tableau.tableau l.home).entries l.x0 (pos 0)));
  range : InRange l.best;
  least : pos 0 ≤ℤ l.best;
  column : IfSome l.chosen (λ c. c < l.tableau.tableau.columns);
  within : l.from ≤ length (set (line_of l.tableau.tableau l.home).entries l.x0 (pos 0));
}

abbrev pub decreases-loop-column : goal.decreases-loop-column
decreases-loop-column l = length (set (line_of l.tableau.tableau l.home).entries l.x0 (pos 0)) - l.from
