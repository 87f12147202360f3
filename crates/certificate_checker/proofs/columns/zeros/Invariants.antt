-- So many so far.
use Rattle.std.proofs.Common.{◌≡◌, replicate}
use Rattle.certificate_checker.proofs.columns.zeros.Given as goal

abbrev pub invariant-loop-variable : goal.invariant-loop-variable
invariant-loop-variable l = l.sums.items ≡ replicate l.variable-index l.zero
