-- What is written and what is left are all entries.
use Rattle.int_tableau.proofs.Common.{◌≡◌, ◌++◌, drop, AreNarrow}
use Rattle.int_tableau.proofs.narrow.narrowed.Given as goal

abbrev pub invariant-loop-entry : goal.invariant-loop-entry
invariant-loop-entry l = record {
  copied : l.entries ≡ l.out.items ++ drop l.entry-index l.entries;
  narrow : AreNarrow l.out.items;
}
