-- The lines so far.
use Rattle.solver_answers.proofs.LineLaws.{IsSoFar}
use Rattle.solver_answers.proofs.lines.read_lines.Given as goal

abbrev pub invariant-loop-number : goal.invariant-loop-number
invariant-loop-number l = IsSoFar l.form l.columns l.rows l.text l.left l.number l.start
