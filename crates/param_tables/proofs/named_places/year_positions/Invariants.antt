use Rattle.param_tables.proofs.Common.{◌≡◌, [], filter, range_with_len, members, year, slice_index_or}
use Rattle.param_tables.specs.Changes.{Years, is_named}
use Rattle.param_tables.proofs.named_places.year_positions.Given as goal

abbrev pub invariant-loop-i : goal.invariant-loop-i
invariant-loop-i l = l.positions.items ≡ filter (λ i. is_named (Years l.first l.last) (slice_index_or (members l.sets year) i [])) (range_with_len 0 l.i)
