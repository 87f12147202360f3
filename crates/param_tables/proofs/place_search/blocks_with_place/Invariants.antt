use Rattle.std.proofs.Common.{◌≡◌, ◌-◌, ◌/◌, map, take}
use Rattle.param_tables.proofs.place_search.blocks_with_place.Given as goal

abbrev pub invariant-loop-place : goal.invariant-loop-place
invariant-loop-place l = l.blocks.items ≡ map (λ p. (p - l.start) / l.width) (take l.place-index l.part)
