use Rattle.row_book.proofs.Common.{◌-◌, flat_map, range_with_len, places_of, AddsRows, instances_in}
use Rattle.row_book.proofs.made_rows.MadeRows.add_equation.Given as goal

-- the rows of the regions so far were added
abbrev pub invariant-loop-region : goal.invariant-loop-region
invariant-loop-region l = AddsRows (places_of l.factors) l.model.facts (flat_map (instances_in l.model.facts l.eq) (range_with_len 0 (l.region - 0))) l.fn.self l.self
