use Rattle.row_book.proofs.Common.{◌-◌, ◌≤◌, flat_map, range_with_len, instances_of, places_of, AddsRows}
use Rattle.row_book.proofs.made_rows.MadeRows.add_equations.Given as goal

-- the rows of the equations so far were added
abbrev pub invariant-loop-eq : goal.invariant-loop-eq
invariant-loop-eq l = (1 ≤ l.eq) × AddsRows (places_of l.factors) l.model.facts (flat_map (instances_of l.model.facts) (range_with_len 1 (l.eq - 1))) l.fn.self l.self
