-- The columns so far and those that are left are all.
use Rattle.std.proofs.Common.{◌≡◌, ◌++◌, drop}
use Rattle.row_core.specs.Numbers.{keys_of}
use Rattle.rounded_solver.proofs.plans.plan_of.Given as goal

abbrev pub invariant-loop-column : goal.invariant-loop-column
invariant-loop-column l = keys_of l.entries.items ++ drop l.column-index l.columns ≡ l.columns
