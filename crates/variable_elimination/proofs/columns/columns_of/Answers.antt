use Rattle.std.proofs.lemmas.List.Filters.{dedup_is}
use Rattle.row_core.specs.contracts.VarOrd.TheImpl.Laws.{matches_eq-law}
use Rattle.variable_elimination.proofs.ColumnsInOrder.{columns-are}
use Rattle.variable_elimination.proofs.columns.columns_of.Goals as goal

pub returns : goal.returns
returns c =
    columns-are _ matches_eq-law c.args.rows.now c.in_ok-columns.columns.items c.sort.new.self.items c.dedup.new.self.items
    c.in_ok-columns.ensures c.in_ok-sort.ensures.permutation c.in_ok-sort.ensures.sorted (dedup_is _ _ _ c.dedup.ensures.filtered)
