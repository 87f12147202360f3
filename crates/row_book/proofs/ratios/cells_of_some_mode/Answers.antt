use Rattle.row_book.proofs.Common.{◌∙◌, ap, map, dedup_is, with_mode}
use Rattle.row_core.specs.contracts.index_order.IndexOrd.TheImpl.Laws.{matches_eq-law}
use Rattle.row_book.proofs.RatioCells.{some-mode-cells}
use Rattle.row_book.proofs.ratios.cells_of_some_mode.Goals as goal

pub returns : goal.returns
returns c =
    some-mode-cells _ matches_eq-law c.args.model.now.facts c.args.ratio c.args.region c.in_ok-in_modes.in_modes.items c.in_ok-cells.cells.items c.sort.new.self.items
    c.dedup.new.self.items c.in_ok-in_modes.ensures (c.in_ok-cells.ensures ∙ ap (map (with_mode 0)) c.deref.ensures.value) c.in_ok-sort.ensures.permutation c.in_ok-sort.ensures.sorted (dedup_is _ _ _ c.dedup.ensures.filtered)
