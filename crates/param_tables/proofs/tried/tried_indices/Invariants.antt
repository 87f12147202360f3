use Rattle.param_tables.proofs.Common.{◌≡◌, ◌≤◌, length, map, filter, range_with_len, is_nonzero_in, index_at_offset}
use Rattle.param_tables.proofs.tried.tried_indices.Given as goal

-- those so far are found, and no more than are asked for
abbrev pub invariant-loop-offset : goal.invariant-loop-offset
invariant-loop-offset l = record {
  found : l.indices.items ≡ filter (is_nonzero_in l.model.facts l.ratio l.region) (map (index_at_offset l.sizes) (range_with_len 0 l.offset));
  few : length l.indices.items ≤ l.most;
}
