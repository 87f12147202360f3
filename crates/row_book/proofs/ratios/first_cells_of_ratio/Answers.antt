use Rattle.row_book.proofs.Common.{List, ◌∙◌, ap, map, sym, take, take-map, nonzero_indices, RatioIndex, cell_at}
use Rattle.row_book.proofs.RatioIndices.{listed-cells}
use Rattle.row_book.proofs.ratios.first_cells_of_ratio.Goals as goal

pub returns : goal.returns
returns c =
    let d = c.args.model.now.facts in
    let ratio = c.args.ratio in
    c.in_ok-cells.ensures
    ∙ ap (λ (indices : List RatioIndex). map (cell_at ratio c.args.region) indices) (c.deref.ensures.value ∙ c.in_ok-indices.ensures)
    ∙ sym (take-map (cell_at ratio c.args.region) c.args.most (nonzero_indices d ratio c.args.region))
    ∙ ap (take c.args.most) (listed-cells d ratio c.args.region)
