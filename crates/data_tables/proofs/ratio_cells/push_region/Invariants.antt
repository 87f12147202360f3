-- What is written and the indices that are left are the whole.
use Rattle.std.proofs.Common.{◌≡◌, ◌++◌, drop, map}
use Rattle.data_tables.specs.RatioWalks.{positions_of}
use Rattle.data_tables.proofs.WalkLaws.{cells_text}
use Rattle.data_tables.proofs.ratio_cells.push_region.Given as goal

abbrev pub invariant-loop-index : goal.invariant-loop-index
invariant-loop-index l =
    l.lines ++ cells_text l.fn.cells.form l.fn.cells.model.now.facts l.fn.cells.param (map (positions_of l.region) (drop l.index-index l.indices))
    ≡ l.fn.lines ++ cells_text l.fn.cells.form l.fn.cells.model.now.facts l.fn.cells.param (map (positions_of l.region) l.indices)
