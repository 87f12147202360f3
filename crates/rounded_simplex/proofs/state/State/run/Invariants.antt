use Rattle.std.proofs.Common.{◌≤◌}
use Rattle.rounded_simplex.proofs.state.State.run.Given as goal

abbrev pub invariant-loop : goal.invariant-loop
invariant-loop g l = l.pivots ≤ l.limit
