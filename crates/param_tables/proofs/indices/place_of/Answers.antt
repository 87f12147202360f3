use Rattle.param_tables.proofs.Common.{◌≡◌, ℕ, ◌+◌, ◌*◌, ◌^◌, ◌<◌, ◌≤◌, length, get_or, take, sym, ap, subst, ◌∙◌, arith, take_all, AllZip-long, members, IsPlaceOf, names_over}
use Rattle.param_tables.proofs.PlaceLaws.{most, most-zero, most-four, small_more, members-most, place_none, place_step, position_within, names_over-more}
use Rattle.param_tables.proofs.indices.place_of.Goals as goal

pub loop-i-init : goal.loop-i-init
loop-i-init c = record { place = place_none c.args.sets.now; small = omega (arith, most-zero) }

pub bounds-index-i : goal.bounds-index-i
bounds-index-i c =
    let long : length c.args.index.now ≡ length c.args.subscripts.now = AllZip-long (λ k i. i < length (members c.args.sets.now k)) c.args.subscripts.now c.args.index.now c.requires.within in
    omega (arith, c.loop-i-test.true)

pub next_place-place-requires-clause-place : goal.next_place-place-requires-clause-place
next_place-place-requires-clause-place c =
    let low : most c.loop-i.i ≤ 10 ^ 12 = most-four c.loop-i.i (omega (arith, c.loop-i-test.true, c.requires.most)) in omega (arith, c.loop-i.invariant.small)

pub next_place-place-requires-clause-member : goal.next_place-place-requires-clause-member
next_place-place-requires-clause-member c =
    let inside = position_within c.args.sets.now c.args.subscripts.now c.args.index.now c.loop-i.i c.requires.within c.loop-i-test.true in
    omega (arith, inside, c.count.ensures.count)

pub loop-i-preserved : goal.loop-i-preserved
loop-i-preserved c =
    let sets = c.args.sets.now in
    let ks = c.args.subscripts.now in
    let is = c.args.index.now in
    let i = c.loop-i.i in
    let k = get_or ks i 0 in
    let m = get_or is i 0 in
    let below : i < length ks = c.loop-i-test.true in
    let long : length is ≡ length ks = AllZip-long (λ k i. i < length (members sets k)) ks is c.requires.within in
    let inside : m < length (members sets k) = position_within sets ks is i c.requires.within below in
    let count : c.count.result ≡ length (members sets k) = c.count.ensures.count in
    let next : c.next_place-place.result ≡ c.loop-i.place * length (members sets k) + m = c.next_place-place.ensures ∙ ap (λ n. c.loop-i.place * n + m) count in
    let few : length (members sets k) ≤ 1000 = members-most sets k c.count.ensures.rules (c.requires.listed i 0 below) in
    record {
      place = subst (IsPlaceOf sets (take (i + 1) ks) (names_over sets (take (i + 1) ks) (take (i + 1) is))) (sym next) (place_step sets ks (names_over sets (take i ks) (take i is)) (names_over sets (take (i + 1) ks) (take (i + 1) is)) i c.loop-i.place m below inside (names_over-more sets ks is i long below) c.loop-i.invariant.place);
      small = let P : ℕ → Type 0 = λ n. n < most (i + 1) in subst P (sym next) (small_more c.loop-i.place (length (members sets k)) m i c.loop-i.invariant.small few inside);
    }

pub returns : goal.returns
returns c =
    let sets = c.args.sets.now in
    let ks = c.args.subscripts.now in
    let is = c.args.index.now in
    let i = c.loop-i.i in
    let long : length is ≡ length ks = AllZip-long (λ k i. i < length (members sets k)) ks is c.requires.within in
    let all_ks : take i ks ≡ ks = take_all i ks c.loop-i-test.false in
    let all_is : take i is ≡ is = take_all i is (omega (arith, c.loop-i-test.false)) in
    subst (λ js. IsPlaceOf sets js (names_over sets js is) c.loop-i.place) all_ks (subst (λ hs. IsPlaceOf sets (take i ks) (names_over sets (take i ks) hs) c.loop-i.place) all_is c.loop-i.invariant.place)
