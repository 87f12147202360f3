-- The columns are those of the rows so far.
use Rattle.variable_elimination.proofs.Common.{take, HaveColumns}
use Rattle.variable_elimination.proofs.cells.columns_at.Given as goal

abbrev pub invariant-loop-row : goal.invariant-loop-row
invariant-loop-row l = HaveColumns l.variables (take l.row-index l.rows) l.columns
