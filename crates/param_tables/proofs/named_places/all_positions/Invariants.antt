use Rattle.param_tables.proofs.Common.{◌≡◌, range_with_len}
use Rattle.param_tables.proofs.named_places.all_positions.Given as goal

abbrev pub invariant-loop-i : goal.invariant-loop-i
invariant-loop-i l = l.positions.items ≡ range_with_len 0 l.i
