-- Whether none of those that are left is there.
use Rattle.proof_files.proofs.Common.{◌≡◌, drop, is_none, list_all}
use Rattle.proof_files.proofs.reading.has_none.Given as goal

abbrev pub invariant-loop-value : goal.invariant-loop-value
invariant-loop-value l = list_all is_none (drop l.value-index l.values) ≡ list_all is_none l.values
