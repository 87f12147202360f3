use Rattle.row_core.proofs.Common.{◌≡◌, ◌++◌, map, take, join_with_byte, member}
use Rattle.row_core.proofs.names.push_members.Given as goal

-- the members so far stand there
abbrev pub invariant-loop-i : goal.invariant-loop-i
invariant-loop-i l = l.out.items ≡ l.fn.out.items ++ join_with_byte 44 (map (member l.sets l.fn.index) (take l.i l.places))
