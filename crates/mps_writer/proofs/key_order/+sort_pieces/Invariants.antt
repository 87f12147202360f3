use Rattle.std.proofs.Common.{length}
use Rattle.mps_writer.proofs.key_order.+sort_pieces.Given as goal

abbrev pub decreases-sort_pieces : goal.decreases-sort_pieces
decreases-sort_pieces l = length l.entries.now
