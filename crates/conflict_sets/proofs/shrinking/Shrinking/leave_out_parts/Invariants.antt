-- The multipliers so far refute the rows.
use Rattle.row_problem.proofs.Common.{IsRefutation}
use Rattle.conflict_sets.proofs.shrinking.Shrinking.leave_out_parts.Given as goal

abbrev pub invariant-loop-name : goal.invariant-loop-name
invariant-loop-name g l = IsRefutation l.problem.rows.now l.problem.vars.now l.self.multipliers
