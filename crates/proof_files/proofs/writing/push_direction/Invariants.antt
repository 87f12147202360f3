-- What is written and the records of the variables that are left are the whole.
use Rattle.proof_files.proofs.Common.{◌≡◌, ◌++◌, drop, map, valued, direction_record, records_text}
use Rattle.proof_files.proofs.writing.push_direction.Given as goal

abbrev pub invariant-loop-variable : goal.invariant-loop-variable
invariant-loop-variable l =
    l.out.items ++ records_text (map (direction_record l.sets) (map valued (drop l.variable-index l.entries))) ≡ l.fn.out.items ++ records_text (map (direction_record l.sets) (map valued l.entries))
