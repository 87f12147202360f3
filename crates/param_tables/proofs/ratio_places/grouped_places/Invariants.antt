use Rattle.param_tables.proofs.Common.{◌≡◌, map, take, regrouped}
use Rattle.param_tables.proofs.ratio_places.grouped_places.Given as goal

abbrev pub invariant-loop-place : goal.invariant-loop-place
invariant-loop-place l = l.grouped.items ≡ map (regrouped l.sizes) (take l.place-index l.places)
