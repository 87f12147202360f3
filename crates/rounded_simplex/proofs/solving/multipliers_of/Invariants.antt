use Rattle.std.proofs.Common.{◌≡◌, length}
use Rattle.rounded_simplex.proofs.solving.multipliers_of.Given as goal

abbrev pub invariant-loop-row : goal.invariant-loop-row
invariant-loop-row l = length l.multipliers.items ≡ l.row
