-- With the plans of the members that are left, what is written so far is that of all members.
use Rattle.explain_command.proofs.Common.{◌≡◌, ◌++◌, drop, map, valued, all_plan_lines}
use Rattle.explain_command.proofs.texts.push_plans.Given as goal

abbrev pub invariant-loop-i : goal.invariant-loop-i
invariant-loop-i l =
    l.out.items ++ all_plan_lines l.sets (map valued (drop l.i l.members)) (drop l.i l.plans) ≡ l.fn.out.items ++ all_plan_lines l.sets (map valued l.members) l.plans
