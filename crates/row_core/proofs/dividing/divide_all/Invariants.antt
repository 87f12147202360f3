-- The entries in front are divided, and the others are as they were.
use Rattle.row_core.proofs.Common.{◌≡◌, ◌++◌, take, drop, unsigned_abs, entries_divided}
use Rattle.row_core.proofs.dividing.divide_all.Given as goal

abbrev pub invariant-loop-entry : goal.invariant-loop-entry
invariant-loop-entry g l =
    l.entry-items ≡ entries_divided (unsigned_abs l.divisor) (take l.entry-index l.initial.entry-items) ++ drop l.entry-index l.initial.entry-items
