use Rattle.param_tables.proofs.Common.{◌≡◌, ◌-◌, map, take, index_at_offset}
use Rattle.param_tables.proofs.listed.listed_indices.Given as goal

abbrev pub invariant-loop-place : goal.invariant-loop-place
invariant-loop-place l = l.indices.items ≡ map (λ p. index_at_offset l.sizes (p - l.start)) (take l.place-index l.part)
