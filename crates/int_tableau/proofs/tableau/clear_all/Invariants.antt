-- The lines so far are cleared, and the others are as they were.
use Rattle.int_tableau.proofs.Common.{◌≡◌, ◌++◌, true, map, take, drop, flat_map, all_fit, cleared, cleared_formed}
use Rattle.int_tableau.proofs.tableau.clear_all.Given as goal

abbrev pub invariant-loop-line : goal.invariant-loop-line
invariant-loop-line l = record {
  value : l.line-items ≡ map (cleared l.column l.pivot) (take l.line-index l.initial.line-items) ++ drop l.line-index l.initial.line-items;
  fits : all_fit (flat_map (cleared_formed l.column l.pivot) (take l.line-index l.initial.line-items)) ≡ true;
}
