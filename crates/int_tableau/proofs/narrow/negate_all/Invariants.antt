-- The entries so far are negated, and the others are as they were.
use Rattle.int_tableau.proofs.Common.{◌≡◌, ◌++◌, take, drop, entries_negated}
use Rattle.int_tableau.proofs.narrow.negate_all.Given as goal

abbrev pub invariant-loop-entry : goal.invariant-loop-entry
invariant-loop-entry l =
    l.entry-items ≡ entries_negated (take l.entry-index l.initial.entry-items) ++ drop l.entry-index l.initial.entry-items
