use Rattle.model_sets.proofs.Common.{◌≡◌, drop, find, first_empty, is_without_members}
use Rattle.model_sets.proofs.sets.Sets.finish.Given as goal

abbrev pub invariant-loop-set : goal.invariant-loop-set
invariant-loop-set l = first_empty l.self ≡ find (is_without_members l.self) (drop l.set-index l.set-items)
