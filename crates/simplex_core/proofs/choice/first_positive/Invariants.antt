-- No column so far has a positive entry.
use Rattle.simplex_core.proofs.Common.{◌≡◌, ◌-◌, ◌≤◌, length, drop, first_positive_from, line_of}
use Rattle.simplex_core.proofs.choice.first_positive.Given as goal

abbrev pub invariant-loop-column : goal.invariant-loop-column
invariant-loop-column l = record {
  chosen : first_positive_from 0 (line_of l.tableau.tableau l.row).entries ≡ first_positive_from l.from (drop l.from (line_of l.tableau.tableau l.row).entries);
  within : l.from ≤ length (line_of l.tableau.tableau l.row).entries;
}

abbrev pub decreases-loop-column : goal.decreases-loop-column
decreases-loop-column l = length (line_of l.tableau.tableau l.row).entries - l.from
