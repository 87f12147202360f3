use Rattle.row_book.proofs.Common.{◌≡◌, take, flat_map, places_of, AddsRows, inners_of, instances_with, outers_of}
use Rattle.row_book.proofs.made_rows.MadeRows.add_region.Given as goal

-- the rows of the outer subscripts so far were added
abbrev pub invariant-loop-outer : goal.invariant-loop-outer
invariant-loop-outer l =
    (l.outer-items ≡ outers_of l.model.facts l.eq l.region)
    × AddsRows (places_of l.factors) l.model.facts (flat_map (instances_with l.model.facts l.eq (inners_of l.model.facts l.eq l.region)) (take l.outer-index l.outer-items)) l.fn.self l.self
