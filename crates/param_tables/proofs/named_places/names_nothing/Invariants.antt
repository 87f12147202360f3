-- No more is kept than that the loop goes on.
use Rattle.param_tables.proofs.Common.{◌≤◌, length}
use Rattle.param_tables.proofs.named_places.names_nothing.Given as goal

abbrev pub invariant-loop-i : goal.invariant-loop-i
invariant-loop-i l = l.i ≤ length l.subscripts
