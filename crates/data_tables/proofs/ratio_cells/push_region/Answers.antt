-- Index by index.
use Rattle.std.proofs.Common.{List, ℕ, ap, map, ◌∙◌}
use Rattle.std.proofs.lemmas.List.{map-append}
use Rattle.param_tables.specs.Positions.{IsIndexOf}
use Rattle.param_tables.specs.declared.ratios.RatioIndex.{RatioIndex}
use Rattle.data_tables.specs.RatioWalks.{positions_of}
use Rattle.data_tables.proofs.RatioLaws.{within_at}
use Rattle.data_tables.proofs.WalkLaws.{cells_joined, cells_text}
use Rattle.data_tables.proofs.WrittenLaws.{listed_next}
use Rattle.data_tables.proofs.ratio_cells.push_region.Goals as goal

pub push_cell-requires-clause-index : goal.push_cell-requires-clause-index
push_cell-requires-clause-index c =
    within_at (IsIndexOf c.args.cells.model.now.facts.sets c.args.cells.param) (positions_of c.args.region) c.args.indices.now c.loop-index.index-index _ c.requires.within c.loop-index-test.true

pub loop-index-preserved : goal.loop-index-preserved
loop-index-preserved c =
    let facts = c.args.cells.model.now.facts in
    let text : List RatioIndex → List ℕ = λ is. cells_text c.args.cells.form facts c.args.cells.param (map (positions_of c.args.region) is) in
    listed_next text
    (λ xs ys. ap (cells_text c.args.cells.form facts c.args.cells.param) (map-append (positions_of c.args.region) xs ys) ∙ cells_joined c.args.cells.form facts c.args.cells.param (map (positions_of c.args.region) xs) (map (positions_of c.args.region) ys))
    c.args.indices.now c.loop-index.index-index _ c.loop-index.lines c.push_cell.new.lines _ c.loop-index-test.true c.loop-index.invariant c.in_ok-push_cell.ensures
