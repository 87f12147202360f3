use Rattle.std.proofs.Common.{length}
use Rattle.param_tables.proofs.indices.+index_at.Given as goal

abbrev pub decreases-index_at : goal.decreases-index_at
decreases-index_at l = length l.subscripts.now
