-- What is written and the records of the rows that are left are the whole.
use Rattle.plan_files.proofs.Common.{◌≡◌, ◌++◌, drop, map, valued, nonzero, row_record, records_text}
use Rattle.plan_files.proofs.writing.push_multipliers.Given as goal

abbrev pub invariant-loop-name : goal.invariant-loop-name
invariant-loop-name l =
    l.lines ++ records_text (map (row_record l.sets) (nonzero (map valued (drop l.name-index l.entries)))) ≡ records_text (map (row_record l.sets) (nonzero (map valued l.entries)))
