-- What is written and the records of the members that are left are the whole.
use Rattle.plan_compare.proofs.Common.{◌≡◌, ◌++◌, drop, members, records_text, member_records, missing_records}
use Rattle.plan_compare.proofs.members.push_missing.Given as goal

abbrev pub invariant-loop-position : goal.invariant-loop-position
invariant-loop-position l =
    l.out.items ++ records_text (missing_records l.there l.set (drop l.position (members l.here l.set))) ≡ l.fn.out.items ++ records_text (member_records l.here l.there l.set)
