-- Those of the first plan, and then those of the second.
use Rattle.plan_compare.proofs.Common.{List, ◌++◌, filter, map, ap, ◌∙◌, rules, is_first, is_new_sum, sum_of_first, sum_of_second, Side, side_of, Change}
use Rattle.plan_compare.proofs.sums.sums_of.Goals as goal

pub returns : goal.returns
returns c =
    let kind = c.args.kind in
    let a : Side = side_of c.args.first in
    let b : Side = side_of c.args.second in
    let one = c.in_ok-push_told.ensures (is_first kind a) (sum_of_first kind a b) (λ var value change told. search rules) in
    let two = c.in_ok-push_told-2.ensures (is_new_sum kind a b) (sum_of_second b) (λ var value change told. search rules) in
    let first = rw (c.new-all.ensures.items, c.entries.ensures.values) at one in
    let second = rw c.entries-2.ensures.values at two in
    second ∙ ap (λ (xs : List Change). xs ++ map (sum_of_second b) (filter (is_new_sum kind a b) b.plan)) first
