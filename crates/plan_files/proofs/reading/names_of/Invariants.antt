-- The names of the rows so far.
use Rattle.plan_files.proofs.Common.{◌≡◌, ◌++◌, drop, map, name_of_row}
use Rattle.plan_files.proofs.reading.names_of.Given as goal

abbrev pub invariant-loop-row : goal.invariant-loop-row
invariant-loop-row l = l.names.items ++ map name_of_row (drop l.row-index l.rows) ≡ map name_of_row l.rows
