-- Place by place.
use Rattle.plan_tables.proofs.Common.{◌≡◌, ◌<◌, ◌++◌, ◌∷◌, [], ℕ, List, filter, length, get_or, sym, ap, ◌∙◌, subst, arith, AllByRecursion, take_all, filter_more, kind_has}
use Rattle.plan_tables.proofs.ColumnLaws.{below_at, order_below, order_length}
use Rattle.plan_tables.proofs.columns.columns_of.Goals as goal

pub push_column-requires-clause-within : goal.push_column-requires-clause-within
push_column-requires-clause-within c =
    below_at c.column_order-place-items.result c.loop-place.place-index
    (subst (AllByRecursion (λ (place : ℕ). place < 8)) (sym c.column_order-place-items.ensures) (order_below c.args.kind))

pub loop-place-preserved : goal.loop-place-preserved
loop-place-preserved c =
    let items : List ℕ = c.column_order-place-items.result in
    let many : length items ≡ 8 = ap length c.column_order-place-items.ensures ∙ order_length c.args.kind in
    c.in_ok-push_column.ensures
    ∙ ap (λ (places : List ℕ). places ++ filter (kind_has c.args.kind) (get_or items c.loop-place.place-index 0 ∷ [])) c.loop-place.invariant
    ∙ sym (filter_more (kind_has c.args.kind) items c.loop-place.place-index 0 (omega (arith, many, c.loop-place-test.true)))

pub returns : goal.returns
returns c =
    let items : List ℕ = c.column_order-place-items.result in
    let many : length items ≡ 8 = ap length c.column_order-place-items.ensures ∙ order_length c.args.kind in
    c.loop-place.invariant
    ∙ ap (filter (kind_has c.args.kind)) (take_all c.loop-place.place-index items (omega (arith, many, c.loop-place-test.false)))
    ∙ ap (filter (kind_has c.args.kind)) c.column_order-place-items.ensures
