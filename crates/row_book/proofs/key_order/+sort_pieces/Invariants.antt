use Rattle.std.proofs.Common.{length}
use Rattle.row_book.proofs.key_order.+sort_pieces.Given as goal

abbrev pub decreases-sort_pieces : goal.decreases-sort_pieces
decreases-sort_pieces l = length l.vars.now
