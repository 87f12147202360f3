-- None of the rows so far has the name.
use Rattle.std.proofs.Common.{◌≡◌, drop}
use Rattle.emission_curve.specs.Slopes.{entry_at}
use Rattle.emission_curve.proofs.slope.entry_at.Given as goal

abbrev pub invariant-loop-row : goal.invariant-loop-row
invariant-loop-row l = entry_at (drop l.row-index l.rows) l.limit ≡ entry_at l.rows l.limit
