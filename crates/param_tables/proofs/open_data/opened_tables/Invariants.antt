-- The tables so far are opened.
use Rattle.param_tables.specs.OpenTables.{AreOpened}
use Rattle.param_tables.proofs.open_data.opened_tables.Given as goal

abbrev pub invariant-loop-table : goal.invariant-loop-table
invariant-loop-table l = AreOpened l.yielded l.opened.items
