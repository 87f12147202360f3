use Rattle.std.proofs.Common.{arith}
use Rattle.simplex_core.proofs.kept_rounds.method_state.Goals as goal

pub pivot-requires-clause-column : goal.pivot-requires-clause-column
pivot-requires-clause-column c = omega (arith, c.requires.kept.last_column)
