-- The values so far, and those of the variables that are left.
use Rattle.simplex_core.specs.LastTableaus.{place_of, value_at_column}
use Rattle.simplex_core.proofs.ValueLaws.{IsLifted}
use Rattle.simplex_core.proofs.plans.by_variable.Given as goal

abbrev pub invariant-loop-variable : goal.invariant-loop-variable
invariant-loop-variable l = IsLifted (place_of l.lift) (value_at_column l.values) l.variables l.column l.variable-index l.entries.items
