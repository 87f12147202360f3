use Rattle.mathprog_data.proofs.Common.{◌≡◌, ◌++◌, drop, length, index_at, AreWithin, Grown, names_at, places_in}
use Rattle.mathprog_data.proofs.values.places_between.Given as goal

abbrev pub invariant-loop-place : goal.invariant-loop-place
invariant-loop-place l = (Grown l.initial.names.items l.names.items) × (AreWithin (length l.names.items) (places_in l.index)) × (names_at l.names.items (places_in l.index) ++ index_at (drop l.place-index l.slice) (drop l.taken l.others) ≡ index_at l.slice l.others)
