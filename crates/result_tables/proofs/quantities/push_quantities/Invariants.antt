-- What is written and the records of the variables that are left are the whole.
use Rattle.result_tables.proofs.Common.{◌≡◌, ◌++◌, drop, records_text, kind_table}
use Rattle.result_tables.proofs.quantities.push_quantities.Given as goal

abbrev pub invariant-loop-var : goal.invariant-loop-var
invariant-loop-var l =
    l.out.items ++ records_text (kind_table l.sets (drop l.var-index l.vars) l.plan l.kind).records
    ≡ l.fn.out.items ++ records_text (kind_table l.sets l.vars l.plan l.kind).records
