use Rattle.model_sets.proofs.Common.{◌≡◌, ◌≤◌, take, years, least}
use Rattle.model_sets.proofs.sets.Sets.first_year.Given as goal

abbrev pub invariant-loop-i : goal.invariant-loop-i
invariant-loop-i l = record { begun : 1 ≤ l.i; first : l.first ≡ least (take l.i (years l.self)) }
