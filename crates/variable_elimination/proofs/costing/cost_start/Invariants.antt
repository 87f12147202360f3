-- The entries so far.
use Rattle.variable_elimination.proofs.Common.{◌≡◌, ◌∷◌, pos, map, take, cost_variable, minus_one_at}
use Rattle.variable_elimination.proofs.costing.cost_start.Given as goal

abbrev pub invariant-loop-variable : goal.invariant-loop-variable
invariant-loop-variable l = l.entries.items ≡ (cost_variable, pos 1) ∷ map minus_one_at (take l.variable-index l.variable-items)
