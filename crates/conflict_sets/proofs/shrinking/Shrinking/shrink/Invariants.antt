-- The multipliers so far refute the rows.
use Rattle.row_problem.proofs.Common.{IsRefutation}
use Rattle.conflict_sets.proofs.shrinking.Shrinking.shrink.Given as goal

abbrev pub invariant-loop : goal.invariant-loop
invariant-loop g l = IsRefutation l.problem.rows.now l.problem.vars.now l.self.multipliers
