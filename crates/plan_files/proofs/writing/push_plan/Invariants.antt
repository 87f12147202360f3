-- What is written and the records of the variables that are left are the whole.
use Rattle.plan_files.proofs.Common.{◌≡◌, ◌++◌, drop, map, valued, variable_record, records_text}
use Rattle.plan_files.proofs.writing.push_plan.Given as goal

abbrev pub invariant-loop-variable : goal.invariant-loop-variable
invariant-loop-variable l =
    l.lines ++ records_text (map (variable_record l.sets) (map valued (drop l.variable-index l.entries))) ≡ records_text (map (variable_record l.sets) (map valued l.entries))
