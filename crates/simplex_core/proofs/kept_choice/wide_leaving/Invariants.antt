-- The choice so far, the rows that are left, and the greatest sizes so far.
use Rattle.simplex_core.proofs.Common.{◌≡◌, Some, drop, leaving_from, rough_lines, kept_leaving, kept_state, kept_basics, x0_in, AreSpread, chosen_seen}
use Rattle.simplex_core.proofs.kept_choice.wide_leaving.Given as goal

abbrev pub invariant-loop-row : goal.invariant-loop-row
invariant-loop-row l = record {
  choice : kept_leaving (kept_state l.tableau.tableau l.home.row (x0_in l.tableau.tableau) 0 0) l.home.column
      ≡ leaving_from (Some (x0_in l.tableau.tableau)) l.home.column l.row (chosen_seen l.chosen) (drop l.row (rough_lines (kept_state l.tableau.tableau l.home.row (x0_in l.tableau.tableau) 0 0))) (drop l.row (kept_basics l.tableau.tableau l.home.row (x0_in l.tableau.tableau)));
  sizes : AreSpread l.tableau.tableau l.home.row l.home.column l.row l.spread;
}
