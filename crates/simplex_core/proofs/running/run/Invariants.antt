-- The answer is that from here with the pivots that are left.
use Rattle.simplex_core.proofs.Common.{◌≡◌, ◌-◌, ◌≤◌, first_state, program_of, answer, IsReached, state_seen}
use Rattle.simplex_core.proofs.running.run.Given as goal

abbrev pub invariant-rounds : goal.invariant-rounds
invariant-rounds l = record {
  agrees : answer l.pivots (first_state (program_of l.reduced)) ≡ answer (l.pivots - l.made) (state_seen l.last);
  reached : IsReached (program_of l.reduced) (state_seen l.last);
  counted : l.last.tableau.pivots ≡ l.made;
  degenerate : l.last.degenerate ≤ l.made;
  within : l.made ≤ l.pivots;
}

abbrev pub decreases-rounds : goal.decreases-rounds
decreases-rounds l = l.pivots - l.made
