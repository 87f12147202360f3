use Rattle.std.proofs.Common.{◌≡◌, length}
use Rattle.rounded_simplex.proofs.solving.values_of.Given as goal

abbrev pub invariant-loop-column : goal.invariant-loop-column
invariant-loop-column l = length l.values.items ≡ l.column
