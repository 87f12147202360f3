use Rattle.std.proofs.Common.{◌≡◌, length}
use Rattle.rounded_solver.proofs.starting.starting_values.Given as goal

abbrev pub invariant-loop-place : goal.invariant-loop-place
invariant-loop-place l = length l.values.items ≡ l.place
