-- The entries so far, and the variables that are left.
use Rattle.std.proofs.Common.{[], drop}
use Rattle.decimal_solver.proofs.Words.{IsLeft, cost_entries, with_cost, entries_seen}
use Rattle.decimal_solver.proofs.starting.cost_entries.Given as goal

abbrev pub invariant-loop-place : goal.invariant-loop-place
invariant-loop-place l = IsLeft (cost_entries l.cost l.own [] l.layout.places.items) (with_cost l.cost l.own) (entries_seen l.made.items) (drop l.place-index l.layout.places.items)
