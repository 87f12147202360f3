use Rattle.param_tables.proofs.Common.{◌≡◌, take, filter, is_given_nonzero, entries_of}
use Rattle.param_tables.proofs.ratio_places.nonzero_places.Given as goal

abbrev pub invariant-loop-i : goal.invariant-loop-i
invariant-loop-i l = l.nonzero.items ≡ filter (is_given_nonzero (entries_of l.table)) (take l.i l.table.places.items)
