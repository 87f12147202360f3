use Rattle.data_changes.proofs.Common.{map}
use Rattle.data_changes.proofs.RecordLaws.{IsNamedSoFar}
use Rattle.data_changes.proofs.records.all_named.Given as goal

-- what is named so far, before what the rest names
abbrev pub invariant-loop-i : goal.invariant-loop-i
invariant-loop-i l = IsNamedSoFar l.sets (map (λ name. name.now) l.header) (map (λ field. field.now) l.record) l.param l.i l.all.items
