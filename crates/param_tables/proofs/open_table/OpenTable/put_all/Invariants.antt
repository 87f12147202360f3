-- The values from the i-th on are put.
use Rattle.param_tables.proofs.Common.{◌≤◌, length, drop}
use Rattle.param_tables.specs.OpenTables.{ArePut, KeepsShape}
use Rattle.param_tables.proofs.open_table.OpenTable.put_all.Given as goal

abbrev pub invariant-loop-i : goal.invariant-loop-i
invariant-loop-i l = record {
  within : l.i ≤ length l.puts;
  shape : KeepsShape l.initial.self l.self;
  put : ArePut (drop l.i l.puts) l.initial.self l.self;
}

abbrev pub decreases-loop-i : goal.decreases-loop-i
decreases-loop-i l = l.i
