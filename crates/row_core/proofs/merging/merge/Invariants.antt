-- What is made so far and what the rest makes are what all makes; what is formed fits so far.
use Rattle.row_core.proofs.Common.{◌≡◌, ◌++◌, drop, length, all_fit, beside, lessened, all_less_formed}
use Rattle.row_core.proofs.merging.merge.Given as goal

abbrev pub invariant-loop-next : goal.invariant-loop-next
invariant-loop-next l = record {
  made : l.made.items ++ lessened l.a l.b (beside (drop l.left l.entries) (drop l.right l.others)) ≡ lessened l.a l.b (beside l.entries l.others);
  formed : all_fit (all_less_formed l.a l.b (beside l.entries l.others)) ≡ all_fit (all_less_formed l.a l.b (beside (drop l.left l.entries) (drop l.right l.others)));
}

abbrev pub decreases-loop-next : goal.decreases-loop-next
decreases-loop-next l = length (beside (drop l.left l.entries) (drop l.right l.others))
