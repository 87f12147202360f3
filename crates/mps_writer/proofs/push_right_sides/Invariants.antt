use Rattle.mps_writer.proofs.Common.{◌≡◌, ◌+◌, ◌++◌, drop, map, flat_map, enumerate_from, contents_of, rhs_line, numbered}
use Rattle.mps_writer.proofs.push_right_sides.Given as goal

-- with the lines of the rows that are left, the lines so far are those of all rows
abbrev pub invariant-loop-place : goal.invariant-loop-place
invariant-loop-place l =
    l.out.items ++ flat_map rhs_line (enumerate_from (l.place + 1) (map contents_of (drop l.place l.rows))) ≡ l.fn.out.items ++ flat_map rhs_line (numbered (map contents_of l.rows))
