use Rattle.param_tables.proofs.Common.{◌≡◌, ℕ, ◌+◌, ◌*◌, ◌^◌, ◌<◌, ◌≤◌, true, false, ◌&&◌, [], ◌∷◌, ◌++◌, length, get_or, take, drop, refl, sym, ap, subst, ◌∙◌, arith, is_some, slice_index_or, take_more, members, is_among, IsPlaceOf, are_members}
use Rattle.param_tables.proofs.PlaceLaws.{most, most-zero, most-four, small_more, members-most, place_none, place_step, index_of-found, is_some-index_of, are_members-more}
use Rattle.param_tables.proofs.indices.place_of_value.Goals as goal

pub loop-i-init : goal.loop-i-init
loop-i-init c = record { place = λ v is. place_none c.args.sets.now; small = omega (arith, most-zero); found = λ v is. refl }

pub name-requires-clause-subscript : goal.name-requires-clause-subscript
name-requires-clause-subscript c v is = let long : length v.index ≡ length c.args.subscripts.now = c.requires.paired v is in omega (arith, c.loop-i-test.true)

pub returns-in_err-member-clause-found : goal.returns-in_err-member-clause-found
returns-in_err-member-clause-found c v is =
    let sets = c.args.sets.now in
    let ks = c.args.subscripts.now in
    let names = v.index in
    let i = c.loop-i.i in
    let k = get_or ks i 0 in
    let name = c.name.result.now in
    let long : length names ≡ length ks = c.requires.paired v is in
    let unknown : is_among (members sets k) c.bytes.result.now ≡ false = sym (is_some-index_of (members sets k) c.bytes.result.now) ∙ ap (λ o. is_some o) (sym c.in_err-member.ensures.index) in
    ap (λ o. is_some o) c.from_residual.ensures
    ∙ sym
    (c.loop-i.invariant.found v is
    ∙ are_members-more sets ks names i name c.loop-i-test.true (omega (arith, c.loop-i-test.true)) (sym (c.name.ensures v is))
    ∙ ap (λ b. b && are_members sets (drop (i + 1) ks) (drop (i + 1) names)) (ap (is_among (members sets k)) (sym c.bytes.ensures) ∙ unknown))

pub next_place-place-requires-clause-place : goal.next_place-place-requires-clause-place
next_place-place-requires-clause-place c =
    let low : most c.loop-i.i ≤ 10 ^ 12 = most-four c.loop-i.i (omega (arith, c.loop-i-test.true, c.requires.most)) in omega (arith, c.loop-i.invariant.small)

pub loop-i-preserved : goal.loop-i-preserved
loop-i-preserved c =
    let sets = c.args.sets.now in
    let ks = c.args.subscripts.now in
    let i = c.loop-i.i in
    let k = get_or ks i 0 in
    let name = c.name.result.now in
    let m = c.in_ok-member.member in
    let below : i < length ks = c.loop-i-test.true in
    let count : c.count.result ≡ length (members sets k) = c.count.ensures.count in
    let next : c.next_place-place.result ≡ c.loop-i.place * length (members sets k) + m = c.next_place-place.ensures ∙ ap (λ n. c.loop-i.place * n + m) count in
    let few : length (members sets k) ≤ 1000 = members-most sets k c.count.ensures.rules (c.requires.listed i 0 c.loop-i-test.true) in
    let is_name : slice_index_or (members sets k) m [] ≡ name = index_of-found (members sets k) c.bytes.result.now m (sym c.in_ok-member.ensures.index) ∙ c.bytes.ensures in
    let known : is_among (members sets k) name ≡ true = ap (is_among (members sets k)) (sym c.bytes.ensures) ∙ sym (is_some-index_of (members sets k) c.bytes.result.now) ∙ ap (λ o. is_some o) (sym c.in_ok-member.ensures.index) in
    record {
      place = λ v is.
          let names = v.index in
          let long : length names ≡ length ks = c.requires.paired v is in
          let inside : i < length names = omega (arith, c.loop-i-test.true) in
          let ends : take i names ++ slice_index_or (members sets k) m [] ∷ [] ≡ take (i + 1) names = ap (λ n. take i names ++ n ∷ []) (is_name ∙ c.name.ensures v is) ∙ sym (take_more names i name inside) in
          subst (IsPlaceOf sets (take (i + 1) ks) (take (i + 1) names)) (sym next) (place_step sets ks (take i names) (take (i + 1) names) i c.loop-i.place m below c.in_ok-member.ensures.within ends (c.loop-i.invariant.place v is));
      small = let P : ℕ → Type 0 = λ n. n < most (i + 1) in subst P (sym next) (small_more c.loop-i.place (length (members sets k)) m i c.loop-i.invariant.small few c.in_ok-member.ensures.within);
      found = λ v is.
          let names = v.index in
          let long : length names ≡ length ks = c.requires.paired v is in
          c.loop-i.invariant.found v is
          ∙ are_members-more sets ks names i name below (omega (arith, c.loop-i-test.true)) (sym (c.name.ensures v is))
          ∙ ap (λ b. b && are_members sets (drop (i + 1) ks) (drop (i + 1) names)) known;
    }
