-- The variables so far have places for columns.
use Rattle.variable_elimination.proofs.Common.{take, AreEmpty}
use Rattle.variable_elimination.proofs.cells.empty_columns.Given as goal

abbrev pub invariant-loop-variable : goal.invariant-loop-variable
invariant-loop-variable l = AreEmpty (take l.variable-index l.variables) l.columns
