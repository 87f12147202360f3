use Rattle.param_tables.proofs.Common.{◌≡◌, ℕ, ◌*◌, ◌+◌, ◌<◌, List, flat_map, length, map, take, get_or, get_or_default, take_all, Contains, ap, ap₂, subst, arith, AllZip-long, members, ◌∙◌}
use Rattle.param_tables.specs.ChangeTold.{CanBeNamed, named_over}
use Rattle.param_tables.specs.OpenTables.{places_named}
use Rattle.param_tables.specs.declared.change.Members.TheVariants as by
use Rattle.param_tables.proofs.NamedLaws.{can_be_named, places_more, places_small, position_below, positions_named}
use Rattle.param_tables.proofs.named_places.named_places.Goals as goal

contains_same : (xs ys : List ℕ) (x : ℕ) → xs ≡ ys → Contains xs x → Contains ys x
contains_same xs ys x same has = subst (λ zs. Contains zs x) same has

pub named_positions-requires-clause-named : goal.named_positions-requires-clause-named
named_positions-requires-clause-named c =
    let sets = c.args.sets.now in
    let ks = c.args.subscripts.now in
    let named = c.args.named.now in
    let long : length named ≡ length ks = AllZip-long (CanBeNamed sets) ks named c.requires.named in
    let m = get_or named c.loop-i.i by.Every in
    can_be_named sets ks named c.loop-i.i m c.requires.named c.loop-i-test.true (get_or_default named c.loop-i.i m by.Every (omega (arith, long, c.loop-i-test.true)))

pub places_with-requires-clause-places : goal.places_with-requires-clause-places
places_with-requires-clause-places c k d below =
    let place = get_or c.as_slice.result.now k d in
    let has : Contains c.as_slice.result.now place = (k, below, get_or_default c.as_slice.result.now k place d below) in
    let same = c.as_slice.ensures.value ∙ c.loop-i.invariant in
    places_small c.args.sets.now c.args.subscripts.now (named_over c.args.sets.now (take c.loop-i.i c.args.subscripts.now) (take c.loop-i.i c.args.named.now)) c.loop-i.i place c.requires.sets c.requires.listed c.requires.most c.loop-i-test.true
    (contains_same c.as_slice.result.now (places_named c.args.sets.now (take c.loop-i.i c.args.subscripts.now) (named_over c.args.sets.now (take c.loop-i.i c.args.subscripts.now) (take c.loop-i.i c.args.named.now))) place same has)

pub places_with-requires-clause-positions : goal.places_with-requires-clause-positions
places_with-requires-clause-positions c k d below =
    let sets = c.args.sets.now in
    let set = get_or c.args.subscripts.now c.loop-i.i 0 in
    let position = get_or c.as_slice-in-loop-i.result.now k d in
    let has : Contains c.as_slice-in-loop-i.result.now position = (k, below, get_or_default c.as_slice-in-loop-i.result.now k position d below) in
    let same = c.as_slice-in-loop-i.ensures.value ∙ c.in_ok-positions.ensures in
    let inside : position < length (members sets set) = position_below sets set (get_or c.args.named.now c.loop-i.i by.Every) position (contains_same c.as_slice-in-loop-i.result.now (positions_named sets set (get_or c.args.named.now c.loop-i.i by.Every)) position same has) in
    omega (arith, inside, c.count.ensures.count)

pub loop-i-preserved : goal.loop-i-preserved
loop-i-preserved c =
    let sets = c.args.sets.now in
    let ks = c.args.subscripts.now in
    let named = c.args.named.now in
    let i = c.loop-i.i in
    let m = get_or named i by.Every in
    let long : length named ≡ length ks = AllZip-long (CanBeNamed sets) ks named c.requires.named in
    let places = c.loop-i.places.items in
    let positions = c.in_ok-positions.positions.items in
    c.in_ok-places.ensures
    ∙ ap₂ (λ (ps is : List ℕ). flat_map (λ place. map (λ position. place * c.count.result + position) is) ps) c.as_slice.ensures.value c.as_slice-in-loop-i.ensures.value
    ∙ ap (λ (n : ℕ). flat_map (λ place. map (λ position. place * n + position) positions) places) c.count.ensures.count
    ∙ places_more sets ks named i m places positions c.requires.named c.loop-i-test.true (get_or_default named i m by.Every (omega (arith, long, c.loop-i-test.true))) c.loop-i.invariant c.in_ok-positions.ensures

pub returns : goal.returns
returns c =
    let sets = c.args.sets.now in
    let ks = c.args.subscripts.now in
    let named = c.args.named.now in
    let i = c.loop-i.i in
    let long : length named ≡ length ks = AllZip-long (CanBeNamed sets) ks named c.requires.named in
    c.loop-i.invariant
    ∙ ap₂ (λ js ns. places_named sets js (named_over sets js ns)) (take_all i ks c.loop-i-test.false) (take_all i named (omega (arith, long, c.loop-i-test.false)))
