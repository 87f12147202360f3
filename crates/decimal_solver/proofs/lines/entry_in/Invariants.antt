-- What stands in the column is what is left says.
use Rattle.std.proofs.Common.{◌≡◌, drop}
use Rattle.decimal_solver.proofs.Words.{entry_in, entries_seen}
use Rattle.decimal_solver.proofs.lines.entry_in.Given as goal

abbrev pub invariant-loop-entry : goal.invariant-loop-entry
invariant-loop-entry l = entry_in l.column (entries_seen l.entries) ≡ entry_in l.column (entries_seen (drop l.entry-index l.entries))
