-- The names so far and those of the rows that are left are all.
use Rattle.std.proofs.Common.{◌≡◌, ◌++◌, drop}
use Rattle.row_core.specs.Numbers.{keys_of}
use Rattle.row_core.specs.RowLists.{names_of}
use Rattle.rounded_solver.proofs.plans.multipliers_in.Given as goal

abbrev pub invariant-loop-row : goal.invariant-loop-row
invariant-loop-row l = keys_of l.entries.items ++ names_of (drop l.row-index l.rows) ≡ names_of l.rows
