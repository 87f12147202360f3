-- What is written and the records of the sets that are left are the whole.
use Rattle.plan_compare.proofs.Common.{◌≡◌, ◌++◌, drop, member_records}
use Rattle.plan_compare.proofs.TextLaws.{text_of_each}
use Rattle.plan_compare.proofs.members.push_only_here.Given as goal

abbrev pub invariant-loop-set : goal.invariant-loop-set
invariant-loop-set l =
    l.out.items ++ text_of_each (member_records l.here l.there) (drop l.set-index l.set-items) ≡ l.fn.out.items ++ text_of_each (member_records l.here l.there) l.set-items
