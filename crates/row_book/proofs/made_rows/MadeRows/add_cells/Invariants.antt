use Rattle.row_book.proofs.Common.{take, places_of, AddsRows, instances_with}
use Rattle.row_book.proofs.made_rows.MadeRows.add_cells.Given as goal

-- the rows of the inner subscripts so far were added
abbrev pub invariant-loop-cell : goal.invariant-loop-cell
invariant-loop-cell l = AddsRows (places_of l.factors) l.model.facts (instances_with l.model.facts l.eq (take l.cell-index l.cells) l.outer) l.fn.self l.self
