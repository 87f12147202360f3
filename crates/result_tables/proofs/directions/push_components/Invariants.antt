-- What is written and the records of the variables that are left are the whole.
use Rattle.result_tables.proofs.Common.{◌≡◌, ◌++◌, drop, map, records_text, valued, direction_table}
use Rattle.result_tables.proofs.directions.push_components.Given as goal

abbrev pub invariant-loop-var : goal.invariant-loop-var
invariant-loop-var l =
    l.out.items ++ records_text (direction_table l.sets (map valued (drop l.var-index l.entries))).records
    ≡ l.fn.out.items ++ records_text (direction_table l.sets (map valued l.entries)).records
