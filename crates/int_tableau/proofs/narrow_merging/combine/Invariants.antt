-- What is left begins with the two columns, and what is before them is written.
use Rattle.int_tableau.proofs.Common.{◌≡◌, ◌+◌, ◌-◌, ◌≤◌, drop, length, vec_capacity, head_column, AreNarrow}
use Rattle.int_tableau.proofs.HeadLaws.{IsMerging}
use Rattle.int_tableau.proofs.narrow_merging.combine.Given as goal

abbrev pub invariant-loop-first : goal.invariant-loop-first
invariant-loop-first l = record {
  merging : IsMerging l.columns l.a l.b l.line l.other (drop l.left l.line) (drop l.right l.other) l.out.items;
  narrow : AreNarrow l.out.items;
  first : l.first ≡ head_column l.columns (drop l.left l.line);
  second : l.second ≡ head_column l.columns (drop l.right l.other);
  room : l.columns ≤ vec_capacity l.out;
}

abbrev pub decreases-loop-first : goal.decreases-loop-first
decreases-loop-first l = (length l.line - l.left) + (length l.other - l.right)
