use Rattle.param_tables.proofs.Common.{◌≡◌, ◌<◌, ℕ, true, false, None, Some, length, get_or, nat_eq, take, sym, ap, ◌∙◌, subst, arith, rules, to_z, of_z, is_some, if◌then◌else◌, get, w128, nat_cmp, subscript_count, subscript_sets, GivenValue, in_turn, IsPlaceOf, are_members, UnknownName, GivenBefore, is_given_among, value_refusal, given_among}
use Rattle.param_tables.proofs.GivenLaws.{no_value, value_there, unknown_refused, twice_refused, value_free, is_some-given, given_more, found_here, none_from}
use Rattle.param_tables.proofs.IndexLaws.{names_apart_from}
use Rattle.param_tables.proofs.TurnLaws.{in_turn_free, in_turn_refused}
use Rattle.param_tables.proofs.given.placed_values.Goals as goal

pub place_of_value-requires-clause-number : goal.place_of_value-requires-clause-number
place_of_value-requires-clause-number c = omega (arith, c.loop-number-test.true, c.len-number-end.ensures)

pub place_of_value-requires-clause-paired : goal.place_of_value-requires-clause-paired
place_of_value-requires-clause-paired c v is =
    let told = c.args.given.now in
    let i = c.loop-number.number in
    let below : i < length told = omega (arith, c.loop-number-test.true, c.len-number-end.ensures) in
    let counted : length v.index ≡ subscript_count c.args.param = subst (λ w. length w.index ≡ subscript_count c.args.param) (sym is) (c.requires.indices i v below).index in
    counted ∙ ap length (sym c.subscript_sets-subscripts.ensures.sets)

pub returns-in_default-clause-refused : goal.returns-in_default-clause-refused
returns-in_default-clause-refused c =
    let told = c.args.given.now in
    let i = c.loop-number.number in
    let p = c.args.param in
    let sets = c.args.sets.now in
    let below : i < length told = omega (arith, c.loop-number-test.true, c.len-number-end.ensures) in
    let v : GivenValue = get_or told i no_value in
    let is : v ≡ get_or told i v = value_there told i below in
    let unknown : are_members sets (subscript_sets p) v.index ≡ false = ap (λ ks. are_members sets ks v.index) (sym c.subscript_sets-subscripts.ensures.sets) ∙ sym (c.in_default.ensures.found v is) in
    let refused : value_refusal sets p (take i told) (get_or told i v) ≡ Some (UnknownName c.at.result) = ap (value_refusal sets p (take i told)) (sym is) ∙ unknown_refused sets p (take i told) v unknown ∙ ap (λ mark. Some (UnknownName mark)) (sym (c.at.ensures v is)) in
    (in_turn_refused (value_refusal sets p) told i v (in_turn (value_refusal sets p) told) (UnknownName c.at.result) below refused c.loop-number.invariant.refusals, tt)

pub returns-then-contains_key-clause-refused : goal.returns-then-contains_key-clause-refused
returns-then-contains_key-clause-refused c =
    let told = c.args.given.now in
    let i = c.loop-number.number in
    let p = c.args.param in
    let sets = c.args.sets.now in
    let below : i < length told = omega (arith, c.loop-number-test.true, c.len-number-end.ensures) in
    let v : GivenValue = get_or told i no_value in
    let is : v ≡ get_or told i v = value_there told i below in
    let place = c.in-Some.place in
    let found = get nat_cmp c.loop-number.values in
    let ks : c.subscript_sets-subscripts.result.now ≡ subscript_sets p = c.subscript_sets-subscripts.ensures.sets in
    let known : are_members sets (subscript_sets p) v.index ≡ true = ap (λ ks. are_members sets ks v.index) (sym ks) ∙ sym (c.in-Some.ensures.found v is) in
    let at : IsPlaceOf sets (subscript_sets p) v.index place = subst (λ ks. IsPlaceOf sets ks v.index place) ks (c.in-Some.ensures.place v is) in
    let here : found place ≡ given_among (take i told) v.index = found_here sets (names_apart_from sets c.requires.sets) p c.requires.listed told i v below is place at found c.loop-number.invariant.values in
    let before : is_given_among (take i told) v.index ≡ true = sym (is_some-given (take i told) v.index) ∙ ap (λ o. is_some o) (sym here) ∙ sym c.if-contains_key.ensures in
    let refused : value_refusal sets p (take i told) (get_or told i v) ≡ Some (GivenBefore c.at-then-contains_key.result) = ap (value_refusal sets p (take i told)) (sym is) ∙ twice_refused sets p (take i told) v known before ∙ ap (λ mark. Some (GivenBefore mark)) (sym (c.at-then-contains_key.ensures v is)) in
    (in_turn_refused (value_refusal sets p) told i v (in_turn (value_refusal sets p) told) (GivenBefore c.at-then-contains_key.result) below refused c.loop-number.invariant.refusals, tt)

pub loop-number-preserved : goal.loop-number-preserved
loop-number-preserved c =
    let told = c.args.given.now in
    let i = c.loop-number.number in
    let p = c.args.param in
    let sets = c.args.sets.now in
    let below : i < length told = omega (arith, c.loop-number-test.true, c.len-number-end.ensures) in
    let v : GivenValue = get_or told i no_value in
    let is : v ≡ get_or told i v = value_there told i below in
    let place = c.in-Some.place in
    let found = get nat_cmp c.loop-number.values in
    let ks : c.subscript_sets-subscripts.result.now ≡ subscript_sets p = c.subscript_sets-subscripts.ensures.sets in
    let known : are_members sets (subscript_sets p) v.index ≡ true = ap (λ ks. are_members sets ks v.index) (sym ks) ∙ sym (c.in-Some.ensures.found v is) in
    let at : IsPlaceOf sets (subscript_sets p) v.index place = subst (λ ks. IsPlaceOf sets ks v.index place) ks (c.in-Some.ensures.place v is) in
    let here : found place ≡ given_among (take i told) v.index = found_here sets (names_apart_from sets c.requires.sets) p c.requires.listed told i v below is place at found c.loop-number.invariant.values in
    let absent : is_some (found place) ≡ false = sym c.if-contains_key.ensures in
    let before : is_given_among (take i told) v.index ≡ false = sym (is_some-given (take i told) v.index) ∙ ap (λ o. is_some o) (sym here) ∙ absent in
    let free : value_refusal sets p (take i told) (get_or told i v) ≡ None = ap (value_refusal sets p (take i told)) (sym is) ∙ value_free sets p (take i told) v known before in
    let back : to_z w128 (of_z w128 c.value.result) ≡ c.value.result = search rules in
    let kept : (q : ℕ) → get nat_cmp c.keep.new.values q ≡ (if nat_eq q place then Some v.value else found q) = λ q. c.in_ok-keep.ensures.kept q ∙ ap (λ value. if nat_eq q place then Some value else found q) (back ∙ c.value.ensures v is) in
    record {
      values = given_more sets (names_apart_from sets c.requires.sets) p c.requires.listed told i v below is place at found c.loop-number.invariant.values (get nat_cmp c.keep.new.values) (none_from (found place) absent) kept;
      refusals = in_turn_free (value_refusal sets p) told i v (in_turn (value_refusal sets p) told) below free c.loop-number.invariant.refusals;
    }
