-- The columns of the entries so far are marked.
use Rattle.int_tableau.proofs.Common.{◌≡◌, length, take, AreMarked}
use Rattle.int_tableau.proofs.marks.mark.Given as goal

abbrev pub invariant-loop-entry : goal.invariant-loop-entry
invariant-loop-entry g l = record {
  marked : AreMarked l.marks (take l.entry-index l.entries);
  many : length l.marks ≡ 256;
}
