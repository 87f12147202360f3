-- The greatest so far, and the entries that are left.
use Rattle.row_problem.proofs.Common.{◌≡◌, ◌<◌, ◌^◌, drop, fold}
use Rattle.decimal_solver.specs.Starts.{greater, greatest_entry}
use Rattle.decimal_solver.proofs.starting.greatest_entry.Given as goal

abbrev pub invariant-loop-entry : goal.invariant-loop-entry
invariant-loop-entry l = record {
  same : greatest_entry 0 l.entries ≡ fold greater l.greatest (drop l.entry-index l.entries);
  range : l.greatest < 2 ^ 127;
}
