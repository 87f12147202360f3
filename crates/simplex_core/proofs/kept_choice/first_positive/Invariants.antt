-- No column so far has a positive entry.
use Rattle.simplex_core.proofs.Common.{◌≡◌, ◌-◌, ◌≤◌, pos, length, drop, set, first_positive_from, line_of}
use Rattle.simplex_core.proofs.kept_choice.first_positive.Given as goal

abbrev pub invariant-loop-column : goal.invariant-loop-column
invariant-loop-column l = record {
  chosen : first_positive_from 0 (set (line_of l.tableau.tableau l.home).entries l.x0 (pos 0)) ≡ first_positive_from l.from (drop l.from (set (line_of l.tableau.tableau l.home).entries l.x0 (pos 0)));
  within : l.from ≤ length (set (line_of l.tableau.tableau l.home).entries l.x0 (pos 0));
}

abbrev pub decreases-loop-column : goal.decreases-loop-column
decreases-loop-column l = length (set (line_of l.tableau.tableau l.home).entries l.x0 (pos 0)) - l.from
