-- What is written and the records of the values that are left are the whole.
use Rattle.std.proofs.Common.{◌≡◌, ◌++◌, drop}
use Rattle.plan_tables.proofs.TextLaws.{values_text}
use Rattle.plan_tables.proofs.values.push_values.Given as goal

abbrev pub invariant-loop-var : goal.invariant-loop-var
invariant-loop-var l =
    l.lines ++ values_text l.sets l.shown.form l.shown.kind (drop l.var-index l.entries) ≡ l.fn.lines ++ values_text l.sets l.shown.form l.shown.kind l.entries
