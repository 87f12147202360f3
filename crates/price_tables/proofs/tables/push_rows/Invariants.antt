-- What is written and the records of the rows that are left are the whole.
use Rattle.std.proofs.Common.{◌≡◌, ◌++◌, drop}
use Rattle.price_tables.proofs.TextLaws.{rows_text}
use Rattle.price_tables.proofs.tables.push_rows.Given as goal

abbrev pub invariant-loop-row : goal.invariant-loop-row
invariant-loop-row l =
    l.lines ++ rows_text l.sets l.fn.shown.form l.multipliers l.fn.shown.table (drop l.row-index l.rows) ≡ rows_text l.sets l.fn.shown.form l.multipliers l.fn.shown.table l.rows
