-- The entries so far stand in their columns.
use Rattle.std.proofs.Common.{take}
use Rattle.variable_elimination.proofs.CellSteps.{AreCells}
use Rattle.variable_elimination.proofs.cells.add_row.Given as goal

abbrev pub invariant-loop-entry : goal.invariant-loop-entry
invariant-loop-entry l = AreCells l.row.name (take l.entry-index l.row.entries.items) l.fn.columns l.columns
