-- How many of those so far don't differ: no more than there are.
use Rattle.plan_compare.proofs.Common.{◌≡◌, ◌≤◌, take, same_count}
use Rattle.plan_compare.proofs.sections.same_count.Given as goal

abbrev pub invariant-loop-change : goal.invariant-loop-change
invariant-loop-change l = record {
  count : l.same ≡ same_count (take l.change-index l.all);
  most : l.same ≤ l.change-index;
}
