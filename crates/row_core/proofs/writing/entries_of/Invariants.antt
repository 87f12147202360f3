-- The entries so far, followed by those of what is left, are all entries.
use Rattle.std.proofs.Common.{◌≡◌, ◌++◌, drop}
use Rattle.row_core.proofs.WritingSteps.{entries_left, entries_fit}
use Rattle.row_core.proofs.writing.entries_of.Given as goal

abbrev pub invariant-loop-term : goal.invariant-loop-term
invariant-loop-term l = record {
  entries : entries_left l.denominator l.terms ≡ l.entries.items ++ entries_left l.denominator (drop l.term-index l.terms);
  fits : entries_fit (entries_left l.denominator l.terms) ≡ entries_fit (entries_left l.denominator (drop l.term-index l.terms));
}
