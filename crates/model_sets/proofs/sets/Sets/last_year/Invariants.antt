use Rattle.model_sets.proofs.Common.{◌≡◌, take, years, greatest}
use Rattle.model_sets.proofs.sets.Sets.last_year.Given as goal

abbrev pub invariant-loop-i : goal.invariant-loop-i
invariant-loop-i l = l.last ≡ greatest (take l.i (years l.self))
