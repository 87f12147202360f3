-- With the rows that are left, the copies so far are those of all rows.
use Rattle.row_core.proofs.Common.{◌≡◌, ◌++◌, drop, map, contents_of}
use Rattle.row_core.proofs.copying.copy_rows.Given as goal

abbrev pub invariant-loop-row : goal.invariant-loop-row
invariant-loop-row l = map contents_of l.copies.items ++ map contents_of (drop l.row-index l.rows) ≡ map contents_of l.rows
