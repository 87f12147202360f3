use Rattle.std.proofs.lemmas.Result.{on_ok_weaker}
use Rattle.mps_writer.proofs.RearrangedLaws.{rearranged-parts}
use Rattle.mps_writer.proofs.key_order.+sort_pieces.Goals as goal

pub returns-in-Ok : goal.returns-in-Ok
returns-in-Ok t c = on_ok_weaker _ (λ rest. rearranged-parts _ _ _ _ _ c.split_at_mut-piece.ensures.value c.sort_piece-2.ensures rest) c.sort_pieces.ensures
