use Rattle.row_book.proofs.Common.{◌∙◌, dedup_is}
use Rattle.row_core.specs.contracts.VarOrd.TheImpl.Laws.{matches_eq-law}
use Rattle.row_book.proofs.VariablesInOrder.{permuted-twice, variables-sorted}
use Rattle.row_book.proofs.variables.sort_variables.Goals as goal

pub returns : goal.returns
returns c =
    variables-sorted _ matches_eq-law c.args.vars.now.items c.sort.new.self.items c.shrink_to_fit.new.self.items
    (permuted-twice c.args.vars.now.items c.deref_mut.result.now c.sort_pieces.new.vars c.sort.new.self.items _ _ c.deref_mut.ensures.value c.deref_mut.ensures.len c.in_ok-sort_pieces.ensures c.in_ok-sort.ensures.permutation)
    c.in_ok-sort.ensures.sorted (c.shrink_to_fit.ensures.items ∙ dedup_is _ _ _ c.dedup.ensures.filtered)
