use Rattle.param_tables.proofs.Common.{◌≡◌, drop, members_told, sets_told}
use Rattle.param_tables.proofs.set_members.members_of.Given as goal

abbrev pub invariant-loop-block : goal.invariant-loop-block
invariant-loop-block l = members_told (sets_told l.blocks) l.set ≡ members_told (sets_told (drop l.block-index l.blocks)) l.set
