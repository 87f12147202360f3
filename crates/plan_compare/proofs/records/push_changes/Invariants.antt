-- What is written and the records of the changes that are left are the whole.
use Rattle.plan_compare.proofs.Common.{◌≡◌, ◌++◌, drop, change_record, side_of}
use Rattle.plan_compare.proofs.TextLaws.{text_of}
use Rattle.plan_compare.proofs.records.push_changes.Given as goal

abbrev pub invariant-loop-change : goal.invariant-loop-change
invariant-loop-change l =
    l.out.items ++ text_of (change_record l.section.by_year l.section.kind (side_of l.first) (side_of l.second)) (drop l.change-index l.changes)
    ≡ l.fn.out.items ++ text_of (change_record l.section.by_year l.section.kind (side_of l.first) (side_of l.second)) l.changes
