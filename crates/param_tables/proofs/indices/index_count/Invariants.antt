use Rattle.param_tables.proofs.Common.{◌≡◌, ◌≤◌, length, take, indices_over}
use Rattle.param_tables.proofs.PlaceLaws.{most}
use Rattle.param_tables.proofs.indices.index_count.Given as goal

abbrev pub invariant-loop-set : goal.invariant-loop-set
invariant-loop-set l = record {
  count : l.count ≡ length (indices_over l.sets (take l.set-index l.subscripts));
  small : l.count ≤ most l.set-index;
}
