-- Those so far that differ.
use Rattle.plan_compare.proofs.Common.{◌≡◌, take, differing}
use Rattle.plan_compare.proofs.sections.differing_of.Given as goal

abbrev pub invariant-loop-change : goal.invariant-loop-change
invariant-loop-change l = l.kept.items ≡ differing (take l.change-index l.all)
