-- The columns so far, and those that are left.
use Rattle.int_tableau.proofs.Common.{◌≡◌, ◌+◌, ◌-◌, ◌++◌, counted_from}
use Rattle.int_tableau.proofs.starting.slack_columns.Given as goal

abbrev pub invariant-loop-position : goal.invariant-loop-position
invariant-loop-position l = counted_from l.layout.width l.layout.rows ≡ l.columns.items ++ counted_from (l.layout.width + l.position) (l.layout.rows - l.position)
