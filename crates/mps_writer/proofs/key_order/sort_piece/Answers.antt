use Rattle.mps_writer.proofs.Common.{rules, always_returns_same}
use Rattle.mps_writer.proofs.RearrangedLaws.{key_of_entry, rearranged-by_key, rearranged-same}
use Rattle.mps_writer.proofs.key_order.sort_piece.Goals as goal

pub returns : goal.returns
returns c =
    rearranged-by_key c.args.piece.now c.sort_by_cached_key.new.self c.sort_by_cached_key.ensures.permutation
    (c.sort_by_cached_key.ensures.stable key_of_entry (always_returns_same _ _ _ (λ a r q k. search rules)))

pub returns-then-is_sorted_by_key : goal.returns-then-is_sorted_by_key
returns-then-is_sorted_by_key c = rearranged-same c.args.piece.now
