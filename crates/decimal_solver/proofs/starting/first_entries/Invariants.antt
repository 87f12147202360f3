-- The entries so far, and the numbers that are left.
use Rattle.std.proofs.Common.{[], drop}
use Rattle.decimal_solver.proofs.Words.{IsLeft, first_entries, with_first, entries_seen}
use Rattle.decimal_solver.proofs.starting.first_entries.Given as goal

abbrev pub invariant-loop-entry : goal.invariant-loop-entry
invariant-loop-entry l =
    IsLeft (first_entries l.f l.m l.layout.places.items [] l.numbers) (with_first l.f l.m l.layout.places.items) (entries_seen l.made.items) (drop l.entry-index l.numbers)
