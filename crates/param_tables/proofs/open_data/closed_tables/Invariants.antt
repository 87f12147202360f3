-- The tables so far are closed.
use Rattle.param_tables.specs.OpenTables.{AreClosed}
use Rattle.param_tables.proofs.open_data.closed_tables.Given as goal

abbrev pub invariant-loop-table : goal.invariant-loop-table
invariant-loop-table l = AreClosed l.yielded l.tables.items
