-- The sum so far, with the timeslices from here on, is the whole sum.
use Rattle.std.proofs.Common.{◌≡◌}
use Rattle.model_sets.specs.Names.{timeslice}
use Rattle.row_core.specs.Amounts.{Billionths, Product}
use Rattle.row_core.specs.Calculated.{known, number_of}
use Rattle.row_core.proofs.RepeatedLaws.{total_with_rest}
use Rattle.named_equations.specs.Parameters.{capacity_factor, year_split}
use Rattle.named_equations.specs.Positions.{count_of}
use Rattle.capacity_rows.specs.Capacity.{slices_capacity}
use Rattle.capacity_rows.proofs.capacity.slices_capacity.Given as goal

abbrev pub invariant-loop-l : goal.invariant-loop-l
invariant-loop-l l =
    (l.l-end ≡ count_of l.model.facts timeslice)
    × (number_of (slices_capacity l.model.facts l.r l.t l.y)
    ≡ total_with_rest (λ i. Product (Billionths (capacity_factor l.model.facts l.r l.t i l.y)) (Billionths (year_split l.model.facts i l.y))) (count_of l.model.facts timeslice) l.l (known l.sum))
