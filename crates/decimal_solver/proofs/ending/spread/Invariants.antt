-- The numbers so far, and the entries that are left.
use Rattle.std.proofs.Common.{pos, map, replicate, drop}
use Rattle.decimal_solver.proofs.Words.{spread, with_number, IsFolded, entries_seen, number_seen}
use Rattle.decimal_solver.proofs.ending.spread.Given as goal

abbrev pub invariant-loop-entry : goal.invariant-loop-entry
invariant-loop-entry l = IsFolded (spread (replicate l.columns (pos 0)) (entries_seen l.entries)) with_number (map number_seen l.numbers.items) (entries_seen (drop l.entry-index l.entries))
