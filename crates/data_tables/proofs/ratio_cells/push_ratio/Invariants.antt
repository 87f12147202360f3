-- What is written and the indices of the regions that are left are the whole.
use Rattle.std.proofs.Common.{◌≡◌, ◌++◌, ◌-◌}
use Rattle.std.specs.List.{flat_map, range_with_len}
use Rattle.model_sets.specs.Params.{subscript_sets}
use Rattle.data_tables.specs.ParamTables.{positions_over}
use Rattle.data_tables.proofs.RatioLaws.{nonzero_positions}
use Rattle.data_tables.proofs.WalkLaws.{cells_text}
use Rattle.data_tables.proofs.ratio_cells.push_ratio.Given as goal

abbrev pub invariant-loop-region : goal.invariant-loop-region
invariant-loop-region l =
    l.lines ++ cells_text l.fn.cells.form l.fn.cells.model.now.facts l.fn.cells.param (flat_map (nonzero_positions l.fn.cells.model.now.facts l.ratio) (range_with_len l.region (l.region-end - l.region)))
    ≡ l.fn.lines ++ cells_text l.fn.cells.form l.fn.cells.model.now.facts l.fn.cells.param (positions_over l.fn.cells.model.now.facts.sets (subscript_sets l.fn.cells.param))
