-- The tables so far are copied.
use Rattle.param_tables.proofs.Common.{◌≡◌, ℕ, ◌<◌, length, get_or, IsCopyOf, ParamTable}
use Rattle.param_tables.proofs.changed.copied_tables.Given as goal

abbrev pub invariant-loop-table : goal.invariant-loop-table
invariant-loop-table l = record {
  long : length l.copies.items ≡ l.table-index;
  each : (i : ℕ) → i < l.table-index → (e : ParamTable) → IsCopyOf (get_or l.tables i e) (get_or l.copies.items i e);
}
