use Rattle.std.proofs.lemmas.List.Sorted.{IsPermutation-refl}
use Rattle.row_book.proofs.key_order.sort_piece.Goals as goal

pub returns : goal.returns
returns c = c.sort_by_cached_key.ensures.permutation

pub returns-then-is_sorted_by_key : goal.returns-then-is_sorted_by_key
returns-then-is_sorted_by_key c = IsPermutation-refl c.args.piece.now
