-- The rounds from here with the pivots that are left are the rounds from the first state.
use Rattle.std.proofs.Common.{◌≡◌, ◌-◌, ◌≤◌, length}
use Rattle.decimal_solver.proofs.Words.{run, state_seen}
use Rattle.decimal_solver.proofs.running.run.Given as goal

abbrev pub invariant-rounds : goal.invariant-rounds
invariant-rounds l = record {
  same : run l.pivots (state_seen l.fn.first) ≡ run (l.pivots - l.state.pivots) (state_seen l.state);
  made : l.state.pivots ≤ l.pivots;
  few : l.state.degenerate ≤ l.state.pivots;
  counted : length l.state.rows.items ≡ length l.fn.first.rows.items;
  slack : l.state.slack ≡ l.fn.first.slack;
}

abbrev pub decreases-rounds : goal.decreases-rounds
decreases-rounds l = l.pivots - l.state.pivots
