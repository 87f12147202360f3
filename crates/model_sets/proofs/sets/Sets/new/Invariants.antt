use Rattle.std.proofs.Common.{◌≡◌, [], replicate}
use Rattle.model_sets.proofs.sets.Sets.new.Given as goal

abbrev pub invariant-loop : goal.invariant-loop
invariant-loop l = l.lists.items ≡ replicate l.counter []
