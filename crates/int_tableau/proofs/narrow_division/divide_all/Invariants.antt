-- The entries so far are divided, and the others are as they were.
use Rattle.int_tableau.proofs.Common.{◌≡◌, ◌++◌, take, drop, unsigned_abs, entries_divided}
use Rattle.int_tableau.proofs.narrow_division.divide_all.Given as goal

abbrev pub invariant-loop-entry : goal.invariant-loop-entry
invariant-loop-entry l =
    l.entry-items ≡ entries_divided (unsigned_abs l.divisor.by) (take l.entry-index l.initial.entry-items) ++ drop l.entry-index l.initial.entry-items
