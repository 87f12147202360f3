-- The lines so far, and those of the rows that are left.
use Rattle.int_tableau.proofs.Common.{◌≡◌, ◌++◌, map, drop, keys_of, row_lines, inequality_of}
use Rattle.int_tableau.proofs.starting.push_row_lines.Given as goal

abbrev pub invariant-loop-position : goal.invariant-loop-position
invariant-loop-position l =
    l.fn.lines.items ++ row_lines (keys_of l.layout.places.items) l.layout.artificial l.layout.rows 0 (map inequality_of l.rows)
    ≡ l.lines.items ++ row_lines (keys_of l.layout.places.items) l.layout.artificial l.layout.rows l.position (map inequality_of (drop l.position l.rows))
