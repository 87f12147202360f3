-- What is written and the tables of the kinds that are left are the whole.
use Rattle.plan_compare.proofs.Common.{◌≡◌, ◌++◌, drop, flat_map, kind_text, side_of}
use Rattle.plan_compare.proofs.comparison.push_kinds.Given as goal

abbrev pub invariant-loop-kind : goal.invariant-loop-kind
invariant-loop-kind l =
    l.out.items ++ flat_map (kind_text (side_of l.first) (side_of l.second)) (drop l.kind-index l.kind-items)
    ≡ l.fn.out.items ++ flat_map (kind_text (side_of l.first) (side_of l.second)) l.kind-items
