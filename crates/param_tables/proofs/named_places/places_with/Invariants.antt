use Rattle.param_tables.proofs.Common.{◌≡◌, ◌+◌, ◌*◌, flat_map, map, take}
use Rattle.param_tables.proofs.named_places.places_with.Given as goal

abbrev pub invariant-loop-place : goal.invariant-loop-place
invariant-loop-place l = l.longer.items ≡ flat_map (λ place. map (λ position. place * l.count + position) l.positions) (take l.place-index l.places)
