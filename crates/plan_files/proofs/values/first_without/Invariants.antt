-- The first key without a value is the first of those that are left.
use Rattle.plan_files.proofs.Common.{◌≡◌, drop, first_without}
use Rattle.plan_files.proofs.values.first_without.Given as goal

abbrev pub invariant-loop-i : goal.invariant-loop-i
invariant-loop-i g l = first_without (drop l.i l.keys) (drop l.i l.values) ≡ first_without l.keys l.values
