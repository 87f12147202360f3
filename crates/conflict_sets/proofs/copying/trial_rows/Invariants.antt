-- With the rows that are left, the copies so far are those of all rows.
use Rattle.conflict_sets.proofs.Common.{◌≡◌, ◌++◌, drop, map, contents_of, listed_by, rows_with}
use Rattle.conflict_sets.proofs.copying.trial_rows.Given as goal

abbrev pub invariant-loop-row : goal.invariant-loop-row
invariant-loop-row l = map contents_of l.copies.items ++ map contents_of (rows_with (listed_by l.listing) (drop l.row-index l.rows)) ≡ map contents_of (rows_with (listed_by l.listing) l.rows)
