use Rattle.std.proofs.Common.{◌≤◌}
use Rattle.rounded_simplex.proofs.state.State.dual_phase.Given as goal

abbrev pub invariant-loop : goal.invariant-loop
invariant-loop g l = l.counts.pivots ≤ l.limit
