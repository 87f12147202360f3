-- The lines so far are shorter, and the others are as they were.
use Rattle.int_tableau.proofs.Common.{◌≡◌, ◌++◌, map, take, drop, without_last}
use Rattle.int_tableau.proofs.tableau.drop_last_of_all.Given as goal

abbrev pub invariant-loop-line : goal.invariant-loop-line
invariant-loop-line l = l.line-items ≡ map without_last (take l.line-index l.initial.line-items) ++ drop l.line-index l.initial.line-items
