-- What was seen is within the greatest so far.
use Rattle.int_tableau.proofs.Common.{take, numbers_of, AreWithin}
use Rattle.int_tableau.proofs.narrow.short_size.Given as goal

abbrev pub invariant-loop-entry : goal.invariant-loop-entry
invariant-loop-entry l = AreWithin l.greatest (numbers_of (take l.entry-index l.entries))
