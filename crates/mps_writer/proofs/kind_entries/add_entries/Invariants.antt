use Rattle.std.proofs.Common.{◌≡◌, ◌++◌, drop, map, filter}
use Rattle.mps_writer.proofs.Common.{contents_of, entry_of, is_of_kind, row_entries}
use Rattle.mps_writer.proofs.kind_entries.add_entries.Given as goal

-- with those of the entries that are left, the entries so far are those of the row
abbrev pub invariant-loop-variable : goal.invariant-loop-variable
invariant-loop-variable l =
    l.entries.items ++ filter (is_of_kind l.kind) (map (entry_of l.number) (drop l.variable-index l.row.entries.items)) ≡ l.fn.entries.items ++ filter (is_of_kind l.kind) (row_entries (l.number, contents_of l.row))
