-- The records so far, whatever the names are whose places are found.
use Rattle.plan_files.proofs.Common.{◌≡◌, List, length, Fields, records_of, FindsPlaces}
use Rattle.std.specs.Fn.{FnReturnsAt}
use Rattle.plan_files.proofs.SoFarLaws.{IsSoFar}
use Rattle.plan_files.proofs.reading.read_values.Given as goal

abbrev pub invariant-loop-number : goal.invariant-loop-number
invariant-loop-number g l =
    (length l.values.items ≡ l.fn.count)
    × ((names : List Fields) → l.fn.count ≡ length names → FindsPlaces names (FnReturnsAt g.P.Fn l.fn.place_of) → IsSoFar names (records_of l.fn.text) l.reader l.number l.values.items)
