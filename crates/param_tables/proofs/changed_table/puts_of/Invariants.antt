-- What the change does at the places so far.
use Rattle.param_tables.proofs.Common.{◌≡◌, ◌≤◌, [], filter, filter_map, length, take}
use Rattle.param_tables.specs.OpenTables.{fault_by, put_by, rounds_at, rule_of}
use Rattle.param_tables.proofs.changed_table.puts_of.Given as goal

abbrev pub invariant-loop-place : goal.invariant-loop-place
invariant-loop-place l = record {
  puts : l.values.items ≡ filter_map (put_by (rule_of l.change) l.table) (take l.place-index l.places);
  rounded : l.rounded ≡ length (filter (rounds_at (rule_of l.change) l.table) (take l.place-index l.places));
  few : l.rounded ≤ l.place-index;
  free : filter_map (fault_by (rule_of l.change) l.table) (take l.place-index l.places) ≡ [];
}
