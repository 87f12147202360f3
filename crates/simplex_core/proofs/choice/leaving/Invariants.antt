-- The choice so far, and the rows that are left.
use Rattle.simplex_core.proofs.Common.{◌≡◌, None, drop, leaving_from, chosen_seen}
use Rattle.simplex_core.proofs.choice.leaving.Given as goal

abbrev pub invariant-loop-row : goal.invariant-loop-row
invariant-loop-row l =
    leaving_from l.x0 l.column 0 None l.tableau.tableau.lines l.tableau.tableau.basics
    ≡ leaving_from l.x0 l.column l.row (chosen_seen l.chosen) (drop l.row l.tableau.tableau.lines) (drop l.row l.tableau.tableau.basics)
