-- The choice so far, and the columns that are left.
use Rattle.simplex_core.proofs.Common.{◌≡◌, ◌-◌, ◌<◌, ◌≤◌, None, pos, length, drop, ◌≤ℤ◌, IfSome, InRange, greatest_from, line_of}
use Rattle.simplex_core.proofs.choice.greatest.Given as goal

abbrev pub invariant-loop-column : goal.invariant-loop-column
invariant-loop-column l = record {
  chosen : greatest_from 0 (pos 0) None (line_of l.tableau.tableau l.row).entries ≡ greatest_from l.from l.best l.chosen (drop l.from (line_of l.tableau.tableau l.row).entries);
  range : InRange l.best;
  least : pos 0 ≤ℤ l.best;
  column : IfSome l.chosen (λ c. c < l.tableau.tableau.columns);
  seen : l.seen ≤ l.from;
  within : l.from ≤ length (line_of l.tableau.tableau l.row).entries;
}

abbrev pub decreases-loop-column : goal.decreases-loop-column
decreases-loop-column l = length (line_of l.tableau.tableau l.row).entries - l.from
