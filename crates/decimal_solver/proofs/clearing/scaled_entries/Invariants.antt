-- The entries so far, and what is left of the line.
use Rattle.std.proofs.Common.{[], drop}
use Rattle.decimal_solver.proofs.Words.{IsLeft, scaled_entries, with_scaled, entries_seen}
use Rattle.decimal_solver.proofs.clearing.scaled_entries.Given as goal

abbrev pub invariant-loop-entry : goal.invariant-loop-entry
invariant-loop-entry l =
    IsLeft (scaled_entries l.f l.d l.limit [] (entries_seen l.entries)) (with_scaled l.f l.d l.limit) (entries_seen l.made.items) (entries_seen (drop l.entry-index l.entries))
