-- The copy has the members so far.
use Rattle.param_tables.proofs.Common.{◌≡◌, ◌-◌, take, members}
use Rattle.std.proofs.Common.{set as with_at}
use Rattle.param_tables.proofs.copied_sets.copy_members.Given as goal

abbrev pub invariant-loop-i : goal.invariant-loop-i
invariant-loop-i l = l.copy ≡ with_at l.initial.copy (l.set - 1) (take l.i (members l.sets l.set))
