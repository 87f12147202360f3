-- The places of the named indices over the subscripts so far.
use Rattle.param_tables.proofs.Common.{◌≡◌, take}
use Rattle.param_tables.specs.ChangeTold.{named_over}
use Rattle.param_tables.specs.OpenTables.{places_named}
use Rattle.param_tables.proofs.named_places.named_places.Given as goal

abbrev pub invariant-loop-i : goal.invariant-loop-i
invariant-loop-i l = l.places.items ≡ places_named l.sets (take l.i l.subscripts) (named_over l.sets (take l.i l.subscripts) (take l.i l.named))
