use Rattle.param_tables.proofs.Common.{◌≡◌, ◌-◌, take, member_refusals, refusal_after}
use Rattle.std.proofs.Common.{set as with_at}
use Rattle.param_tables.proofs.TurnLaws.{in_turn_from}
use Rattle.param_tables.proofs.set_members.add_members.Given as goal

abbrev pub invariant-loop-name : goal.invariant-loop-name
invariant-loop-name l = record {
  sets : l.sets ≡ with_at l.initial.sets (l.set - 1) (take l.name-index l.names);
  refusals : member_refusals l.set l.names ≡ in_turn_from (refusal_after l.set) l.names l.name-index;
}
