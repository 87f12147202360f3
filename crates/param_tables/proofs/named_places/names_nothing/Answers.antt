use Rattle.param_tables.proofs.Common.{◌≡◌, eqb-true, nil_from_length, get_or, get_or_default, length, sym, ◌∙◌, arith, AllZip-long}
use Rattle.param_tables.specs.ChangeTold.{CanBeNamed}
use Rattle.param_tables.specs.declared.change.Members.TheVariants as by
use Rattle.param_tables.proofs.NamedLaws.{can_be_named, none_named}
use Rattle.param_tables.proofs.named_places.names_nothing.Goals as goal

pub bounds-named-i : goal.bounds-named-i
bounds-named-i c =
    let long : length c.args.named.now ≡ length c.args.subscripts.now = AllZip-long (CanBeNamed c.args.sets.now) c.args.subscripts.now c.args.named.now c.requires.named in
    omega (arith, long, c.loop-i-test.true)

pub named_positions-requires-clause-named : goal.named_positions-requires-clause-named
named_positions-requires-clause-named c =
    let sets = c.args.sets.now in
    let ks = c.args.subscripts.now in
    let named = c.args.named.now in
    let long : length named ≡ length ks = AllZip-long (CanBeNamed sets) ks named c.requires.named in
    let m = get_or named c.loop-i.i by.Every in
    can_be_named sets ks named c.loop-i.i m c.requires.named c.loop-i-test.true (get_or_default named c.loop-i.i m by.Every (omega (arith, long, c.loop-i-test.true)))

pub returns-then-is_empty : goal.returns-then-is_empty
returns-then-is_empty c =
    let sets = c.args.sets.now in
    let ks = c.args.subscripts.now in
    let named = c.args.named.now in
    let long : length named ≡ length ks = AllZip-long (CanBeNamed sets) ks named c.requires.named in
    let m = get_or named c.loop-i.i by.Every in
    none_named sets ks named c.loop-i.i m c.requires.named c.loop-i-test.true (get_or_default named c.loop-i.i m by.Every (omega (arith, long, c.loop-i-test.true)))
    (sym (c.as_slice.ensures.value ∙ c.in_ok-positions.ensures) ∙ nil_from_length c.as_slice.result.now (eqb-true (length c.as_slice.result.now) 0 (sym c.if-is_empty.ensures)))
