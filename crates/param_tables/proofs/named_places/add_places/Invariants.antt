use Rattle.param_tables.proofs.Common.{◌≡◌, ◌+◌, ◌*◌, ◌++◌, map, take}
use Rattle.param_tables.proofs.named_places.add_places.Given as goal

abbrev pub invariant-loop-position : goal.invariant-loop-position
invariant-loop-position l = l.places.items ≡ l.initial.places.items ++ map (λ position. l.place * l.count + position) (take l.position-index l.positions)
