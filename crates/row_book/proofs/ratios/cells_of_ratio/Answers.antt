use Rattle.row_book.proofs.Common.{List, ◌∙◌, ap, map, RatioIndex, cell_at}
use Rattle.row_book.proofs.RatioIndices.{listed-cells}
use Rattle.row_book.proofs.ratios.cells_of_ratio.Goals as goal

pub returns : goal.returns
returns c =
    c.in_ok-cells.ensures
    ∙ ap (λ (indices : List RatioIndex). map (cell_at c.args.ratio c.args.region) indices) (c.deref.ensures.value ∙ c.in_ok-indices.ensures)
    ∙ listed-cells c.args.model.now.facts c.args.ratio c.args.region
