use Rattle.command_answers.proofs.Common.{◌≡◌, ◌++◌, take, join_with_byte, names_at}
use Rattle.command_answers.proofs.refusal_lines.push_members.Given as goal

-- the names so far stand there
abbrev pub invariant-loop-i : goal.invariant-loop-i
invariant-loop-i l = l.out.items ≡ l.fn.out.items ++ join_with_byte 44 (take l.i (names_at l.sets l.cell.param l.cell.index.items))
