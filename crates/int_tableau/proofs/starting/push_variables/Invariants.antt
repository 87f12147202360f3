-- The entries so far, and those of the numbers that are left.
use Rattle.int_tableau.proofs.Common.{◌≡◌, ◌++◌, drop, column_entries}
use Rattle.int_tableau.proofs.starting.push_variables.Given as goal

abbrev pub invariant-loop-number : goal.invariant-loop-number
invariant-loop-number l =
    l.fn.entries.items ++ column_entries l.fn.sense l.layout.places.items l.numbers ≡ l.entries.items ++ column_entries l.fn.sense l.layout.places.items (drop l.number-index l.numbers)
