use Rattle.param_tables.proofs.Common.{◌<◌, take, IsPlaceOf, names_over}
use Rattle.param_tables.proofs.PlaceLaws.{most}
use Rattle.param_tables.proofs.indices.place_of.Given as goal

abbrev pub invariant-loop-i : goal.invariant-loop-i
invariant-loop-i l = record {
  place : IsPlaceOf l.sets (take l.i l.subscripts) (names_over l.sets (take l.i l.subscripts) (take l.i l.index)) l.place;
  small : l.place < most l.i;
}
