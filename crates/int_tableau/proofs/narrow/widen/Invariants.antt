-- What is written and what is left are all entries.
use Rattle.std.proofs.Common.{◌≡◌, ◌++◌, drop}
use Rattle.int_tableau.proofs.narrow.widen.Given as goal

abbrev pub invariant-loop-entry : goal.invariant-loop-entry
invariant-loop-entry l = l.entries ≡ l.out.items ++ drop l.entry-index l.entries
