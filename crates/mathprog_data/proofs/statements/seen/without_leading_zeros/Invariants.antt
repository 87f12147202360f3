use Rattle.mathprog_data.proofs.Common.{◌≡◌, drop, without_leading_zeros}
use Rattle.mathprog_data.proofs.statements.seen.without_leading_zeros.Given as goal

abbrev pub invariant-loop-i : goal.invariant-loop-i
invariant-loop-i l = without_leading_zeros (drop l.i l.digits) ≡ without_leading_zeros l.digits
