-- The kept tableau is on the method's way.
use Rattle.simplex_core.proofs.Common.{◌≡◌, suc, shown_state, kept_state, x0_in, IsOnWay}
use Rattle.simplex_core.proofs.kept_rounds.kept_rounds.Given as goal

abbrev pub invariant-loop-made : goal.invariant-loop-made
invariant-loop-made l = record {
  way : IsOnWay l.pivots (shown_state (kept_state l.fn.tableau.tableau l.home (x0_in l.fn.tableau.tableau) 1 0)) l.home l.tableau.tableau l.made l.degenerate;
  x0_is : l.x0 ≡ x0_in l.tableau.tableau;
  counted : suc l.tableau.pivots ≡ l.made;
}
