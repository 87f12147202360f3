use Rattle.param_tables.proofs.Common.{◌≡◌, ◌<◌, take, drop, get_or, GivenValue, IsPlaceOf, are_members}
use Rattle.param_tables.proofs.PlaceLaws.{most}
use Rattle.param_tables.proofs.indices.place_of_value.Given as goal

abbrev pub invariant-loop-i : goal.invariant-loop-i
invariant-loop-i l = record {
  place : (v : GivenValue) → v ≡ get_or l.values l.number v → IsPlaceOf l.sets (take l.i l.subscripts) (take l.i v.index) l.place;
  small : l.place < most l.i;
  found : (v : GivenValue) → v ≡ get_or l.values l.number v → are_members l.sets l.subscripts v.index ≡ are_members l.sets (drop l.i l.subscripts) (drop l.i v.index);
}
