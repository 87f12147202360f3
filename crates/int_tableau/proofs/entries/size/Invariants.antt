-- What was seen is within the greatest so far.
use Rattle.int_tableau.proofs.Common.{◌≤◌, take, numbers_of, AreWithin}
use Rattle.int_tableau.proofs.entries.size.Given as goal

abbrev pub invariant-loop-entry : goal.invariant-loop-entry
invariant-loop-entry l = record {
  within : AreWithin l.greatest (numbers_of (take l.entry-index l.entries));
  least : l.least ≤ l.greatest;
}
