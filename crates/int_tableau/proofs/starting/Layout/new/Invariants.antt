-- The places so far, and those of the variables that are left.
use Rattle.int_tableau.proofs.Common.{◌≡◌, ◌+◌, ◌++◌, drop, width_of, placed}
use Rattle.int_tableau.proofs.starting.Layout.new.Given as goal

abbrev pub invariant-loop-variable : goal.invariant-loop-variable
invariant-loop-variable l = record {
  places : placed 0 l.variables ≡ l.places.items ++ placed l.width (drop l.variable-index l.variables);
  width : width_of l.variables ≡ l.width + width_of (drop l.variable-index l.variables);
}
