-- With the lines of the members that are left, the lines so far are those of all members.
use Rattle.explain_command.proofs.Common.{◌≡◌, ◌++◌, drop, map, flat_map, valued, member_line}
use Rattle.explain_command.proofs.texts.push_members.Given as goal

abbrev pub invariant-loop-name : goal.invariant-loop-name
invariant-loop-name l =
    l.out.items ++ flat_map (member_line l.sets) (map valued (drop l.name-index l.members)) ≡ l.fn.out.items ++ flat_map (member_line l.sets) (map valued l.members)
