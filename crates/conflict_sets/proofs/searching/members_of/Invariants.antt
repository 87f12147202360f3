-- The names so far have their multipliers.
use Rattle.conflict_sets.proofs.Common.{◌≡◌, take, map, valued, member_named}
use Rattle.conflict_sets.proofs.searching.members_of.Given as goal

abbrev pub invariant-loop-name : goal.invariant-loop-name
invariant-loop-name l = map valued l.members.items ≡ map (member_named l.multipliers) (take l.name-index l.names)
