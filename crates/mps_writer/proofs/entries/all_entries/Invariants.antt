use Rattle.mps_writer.proofs.Common.{◌≡◌, ◌+◌, ◌++◌, drop, map, flat_map, enumerate_from, contents_of, row_entries, entries_of}
use Rattle.mps_writer.proofs.entries.all_entries.Given as goal

-- with the entries of the rows that are left, the entries so far are those of all rows
abbrev pub invariant-loop-place : goal.invariant-loop-place
invariant-loop-place l =
    l.entries.items ++ flat_map row_entries (enumerate_from (l.place + 1) (map contents_of (drop l.place l.rows))) ≡ entries_of (map contents_of l.rows)
