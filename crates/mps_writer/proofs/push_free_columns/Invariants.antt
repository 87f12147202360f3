use Rattle.mps_writer.proofs.Common.{◌≡◌, ◌+◌, ◌++◌, drop, flat_map, enumerate_from, bound_line, numbered}
use Rattle.mps_writer.proofs.push_free_columns.Given as goal

-- with the lines of the columns that are left, the lines so far are those of all columns
abbrev pub invariant-loop-place : goal.invariant-loop-place
invariant-loop-place l =
    l.out.items ++ flat_map bound_line (enumerate_from (l.place + 1) (drop l.place l.vars)) ≡ l.fn.out.items ++ flat_map bound_line (numbered l.vars)
