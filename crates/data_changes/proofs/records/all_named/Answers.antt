use Rattle.data_changes.proofs.Common.{◌∙◌, ◌<◌, ◌≤◌, ◌+◌, ap, arith, get_or, length, map, subst, sym}
use Rattle.model_sets.specs.Params.{subscript_sets}
use Rattle.data_changes.specs.Columns.{field_in}
use Rattle.data_changes.proofs.RecordLaws.{IsNamedSoFar, can_all, column_at, columns_long, named_all, named_first, named_more, named_none}
use Rattle.data_changes.proofs.records.all_named.Goals as goal

pub loop-i-init : goal.loop-i-init
loop-i-init c =
    let names = map (λ name. name.now) c.args.header.now in
    let fields = map (λ field. field.now) c.args.record.now in
    subst (IsNamedSoFar c.args.sets.now names fields c.args.param 0) (sym c.in_ok-all.ensures.items) (named_first c.args.sets.now names fields c.args.param)

pub bounds-columns-i : goal.bounds-columns-i
bounds-columns-i c =
    let all = columns_long c.args.columns.now c.args.param c.requires.columns in
    let subscripts = ap length c.subscript_sets-subscripts.ensures.sets in
    let below = c.loop-i-test.true in
    omega (arith, all, subscripts, below)

pub returns-in_default-clause-named : goal.returns-in_default-clause-named
returns-in_default-clause-named c =
    let subscripts = c.subscript_sets-subscripts.ensures.sets in
    let below : c.loop-i.i < length (subscript_sets c.args.param) = let inside = c.loop-i-test.true in let many = ap length subscripts in omega (arith, inside, many) in
    named_none c.args.sets.now (map (λ name. name.now) c.args.header.now) (map (λ field. field.now) c.args.record.now) c.args.param c.loop-i.i c.loop-i.all.items c.loop-i.invariant below
    _ (ap (λ ks. get_or ks c.loop-i.i 0) subscripts)
    _ (c.field_in.ensures ∙ ap (λ column. field_in (map (λ name. name.now) c.args.header.now) (map (λ field. field.now) c.args.record.now) column) (column_at c.args.columns.now c.args.param c.loop-i.i _ c.requires.columns below))
    c.members_named.result c.members_named.ensures.named c.in_default.is

pub loop-i-preserved : goal.loop-i-preserved
loop-i-preserved c =
    let subscripts = c.subscript_sets-subscripts.ensures.sets in
    let names = map (λ name. name.now) c.args.header.now in
    let fields = map (λ field. field.now) c.args.record.now in
    let below : c.loop-i.i < length (subscript_sets c.args.param) = let inside = c.loop-i-test.true in let many = ap length subscripts in omega (arith, inside, many) in
    subst (IsNamedSoFar c.args.sets.now names fields c.args.param (c.loop-i.i + 1)) (sym c.in_ok-push.ensures.items)
    (named_more c.args.sets.now names fields c.args.param c.loop-i.i c.loop-i.all.items c.loop-i.invariant below
    _ (ap (λ ks. get_or ks c.loop-i.i 0) subscripts)
    _ (c.field_in.ensures ∙ ap (λ column. field_in names fields column) (column_at c.args.columns.now c.args.param c.loop-i.i _ c.requires.columns below))
    c.members_named.result c.members_named.ensures.named c.in-Some.members c.in-Some.is c.in-Some.ensures.can)

pub returns-clause-named : goal.returns-clause-named
returns-clause-named c =
    let past : length (subscript_sets c.args.param) ≤ c.loop-i.i = let inside = c.loop-i-test.false in let many = ap length c.subscript_sets-subscripts.ensures.sets in omega (arith, inside, many) in
    named_all c.args.sets.now (map (λ name. name.now) c.args.header.now) (map (λ field. field.now) c.args.record.now) c.args.param c.loop-i.i c.loop-i.all.items c.loop-i.invariant past

pub returns-clause-can : goal.returns-clause-can
returns-clause-can c =
    let past : length (subscript_sets c.args.param) ≤ c.loop-i.i = let inside = c.loop-i-test.false in let many = ap length c.subscript_sets-subscripts.ensures.sets in omega (arith, inside, many) in
    can_all c.args.sets.now (map (λ name. name.now) c.args.header.now) (map (λ field. field.now) c.args.record.now) c.args.param c.loop-i.i c.loop-i.all.items c.loop-i.invariant past
