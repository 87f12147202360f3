use Rattle.mps_writer.proofs.Common.{◌≡◌, ◌++◌, drop, map, contents_of, row_entries, entry_of}
use Rattle.mps_writer.proofs.entries.add_entries.Given as goal

-- with the entries that are left, the entries so far are those of the row
abbrev pub invariant-loop-variable : goal.invariant-loop-variable
invariant-loop-variable l =
    l.entries.items ++ map (entry_of l.number) (drop l.variable-index l.row.entries.items) ≡ l.fn.entries.items ++ row_entries (l.number, contents_of l.row)
