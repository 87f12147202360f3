-- The other entries so far, and those of the entries that are left.
use Rattle.variable_elimination.proofs.Common.{◌≡◌, ◌++◌, drop, var_cmp, other_entries}
use Rattle.variable_elimination.proofs.eliminating.other_entries.Given as goal

abbrev pub invariant-loop-entry : goal.invariant-loop-entry
invariant-loop-entry l = l.others.items ++ other_entries var_cmp l.variable (drop l.entry-index l.entries) ≡ other_entries var_cmp l.variable l.entries
