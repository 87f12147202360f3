-- What was taken and what the keys and values that are left give are the whole.
use Rattle.plan_files.proofs.Common.{◌≡◌, ◌++◌, drop, with_values}
use Rattle.plan_files.proofs.values.with_values.Given as goal

abbrev pub invariant-loop-i : goal.invariant-loop-i
invariant-loop-i g l = l.entries.items ++ with_values (drop l.i l.keys) (drop l.i l.values) ≡ with_values l.keys l.values
