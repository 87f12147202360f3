-- Those of the first plan, and then those of the second.
use Rattle.plan_compare.proofs.Common.{List, ◌++◌, filter, map, ap, ◌∙◌, rules, change_of_first, change_of_second, is_new, Side, side_of, Change}
use Rattle.plan_tables.specs.ValueTables.{is_shown}
use Rattle.plan_compare.proofs.changes.changes_of.Goals as goal

pub returns : goal.returns
returns c =
    let kind = c.args.kind in
    let a : Side = side_of c.args.first in
    let b : Side = side_of c.args.second in
    let one = c.in_ok-push_told.ensures (is_shown kind) (change_of_first kind a b) (λ var value change told. search rules) in
    let two = c.in_ok-push_told-2.ensures (is_new kind a b) (change_of_second) (λ var value change told. search rules) in
    let first = rw (c.new-all.ensures.items, c.entries.ensures.values) at one in
    let second = rw c.entries-2.ensures.values at two in
    second ∙ ap (λ (xs : List Change). xs ++ map (change_of_second) (filter (is_new kind a b) b.plan)) first
