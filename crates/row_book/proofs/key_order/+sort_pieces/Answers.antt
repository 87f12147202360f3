use Rattle.row_book.proofs.Common.{◌++◌, List, subst, sym, IsPermutation, IsPermutation-append, IsPermutation-refl, Var}
use Rattle.row_book.proofs.key_order.+sort_pieces.Goals as goal

pub returns-in-Ok : goal.returns-in-Ok
returns-in-Ok t c =
    subst (λ (vs : List Var). IsPermutation vs (c.sort_piece-2.new.piece ++ c.sort_pieces.new.vars)) (sym c.split_at_mut-piece.ensures.value)
    (IsPermutation-append _ _ _ _ c.sort_piece-2.ensures c.sort_pieces.ensures)

pub returns-in-Err : goal.returns-in-Err
returns-in-Err t c =
    subst (λ (vs : List Var). IsPermutation vs (c.sort_piece-2.new.piece ++ c.split_at_mut-piece.result.1.now)) (sym c.split_at_mut-piece.ensures.value)
    (IsPermutation-append _ _ _ _ c.sort_piece-2.ensures (IsPermutation-refl _))
