use Rattle.param_tables.proofs.Common.{◌≡◌, ℕ, ◌+◌, ◌/◌, ◌%◌, ◌<◌, List, [], ◌∷◌, ◌++◌, length, get_or, sym, ap, subst, ◌∙◌, ◌^◌, All, arith, indices_over, SetLists, members, IsSet, IsPlaceOf, ArePositions, names_over, get_or_append_left, length-append}
use Rattle.param_tables.proofs.PlaceLaws.{place_parts, place_last, ArePositions-push}
use Rattle.param_tables.proofs.indices.+index_at.Goals as goal

-- the place below the indices over the subscripts as they were split
split_below : (sets : SetLists) (all ks : List ℕ) (k place : ℕ) → all ≡ ks ++ k ∷ [] → place < length (indices_over sets all) → place < length (indices_over sets (ks ++ k ∷ []))
split_below sets all ks k place ends below = let P : List ℕ → Type 0 = λ js. place < length (indices_over sets js) in subst P ends below

some_member : (sets : SetLists) (all ks : List ℕ) (k place n : ℕ) → all ≡ ks ++ k ∷ [] → place < length (indices_over sets all) → n ≡ length (members sets k) → 0 < n
some_member sets all ks k place n ends below count =
    let part = place_parts sets ks k place (split_below sets all ks k place ends below) in
    let small = part.place in
    omega arith

pub nonzero_div-place : goal.nonzero_div-place
nonzero_div-place t c = some_member c.args.sets.now c.args.subscripts.now c.in-Some.others.now c.in-Some.last.now c.args.place c.from-count.result c.in-Some.ensures.cases.0 c.requires.below (c.from-count.ensures ∙ c.count.ensures.count)

listed_front : (P : ℕ → Type 0) (all ks : List ℕ) (k : ℕ) → all ≡ ks ++ k ∷ [] → All P all → All P ks
listed_front P all ks k ends every i d below =
    let long : length all ≡ length ks + 1 = ap length ends ∙ length-append ks (k ∷ []) in
    subst P (ap (λ js. get_or js i d) ends ∙ get_or_append_left ks (k ∷ []) d i below) (every i d (omega arith))

pub index_at-requires : goal.index_at-requires
index_at-requires t c =
    let sets = c.args.sets.now in
    let ks = c.in-Some.others.now in
    let k = c.in-Some.last.now in
    let ends : c.args.subscripts.now ≡ ks ++ k ∷ [] = c.in-Some.ensures.cases.0 in
    let count : c.from-count.result ≡ length (members sets k) = c.from-count.ensures ∙ c.count.ensures.count in
    let part = place_parts sets ks k c.args.place (split_below sets c.args.subscripts.now ks k c.args.place ends c.requires.below) in
    let P : ℕ → Type 0 = λ n. c.args.place / n < length (indices_over sets ks) in
    let shorter = c.in-Some.ensures.cases.1 in
    (omega arith, (listed_front IsSet c.args.subscripts.now ks k ends c.requires.listed, subst P (sym count) part.block))

pub nonzero_rem-place : goal.nonzero_rem-place
nonzero_rem-place t c = some_member c.args.sets.now c.args.subscripts.now c.in-Some.others.now c.in-Some.last.now c.args.place c.from-count.result c.in-Some.ensures.cases.0 c.requires.below (c.from-count.ensures ∙ c.count.ensures.count)

pub overflow_cast-place : goal.overflow_cast-place
overflow_cast-place t c =
    let some = some_member c.args.sets.now c.args.subscripts.now c.in-Some.others.now c.in-Some.last.now c.args.place c.from-count.result c.in-Some.ensures.cases.0 c.requires.below (c.from-count.ensures ∙ c.count.ensures.count) in
    let fits : c.from-count.result < 2 ^ 16 = omega (arith, c.from-count.ensures, c.count.type_inv) in
    let small : c.args.place % c.from-count.result < c.from-count.result = omega arith in
    omega arith

pub returns-clause-within : goal.returns-clause-within
returns-clause-within t c =
    let sets = c.args.sets.now in
    let ks = c.in-Some.others.now in
    let k = c.in-Some.last.now in
    let ends : c.args.subscripts.now ≡ ks ++ k ∷ [] = c.in-Some.ensures.cases.0 in
    let count : c.from-count.result ≡ length (members sets k) = c.from-count.ensures ∙ c.count.ensures.count in
    let part = place_parts sets ks k c.args.place (split_below sets c.args.subscripts.now ks k c.args.place ends c.requires.below) in
    let P : ℕ → Type 0 = λ n. c.args.place % n < length (members sets k) in
    let longer = ArePositions-push sets ks c.in_ok-index.index.items k (c.args.place % c.from-count.result) c.in_ok-index.ensures.within (subst P (sym count) part.place) in
    subst (ArePositions sets c.args.subscripts.now) (sym c.in_ok-push.ensures.items) (subst (λ js. ArePositions sets js (c.in_ok-index.index.items ++ c.args.place % c.from-count.result ∷ [])) (sym ends) longer)

pub returns-clause-place : goal.returns-clause-place
returns-clause-place t c =
    let sets = c.args.sets.now in
    let ks = c.in-Some.others.now in
    let k = c.in-Some.last.now in
    let is = c.in_ok-index.index.items in
    let place = c.args.place in
    let ends : c.args.subscripts.now ≡ ks ++ k ∷ [] = c.in-Some.ensures.cases.0 in
    let count : c.from-count.result ≡ length (members sets k) = c.from-count.ensures ∙ c.count.ensures.count in
    let before : IsPlaceOf sets ks (names_over sets ks is) (place / length (members sets k)) = subst (λ n. IsPlaceOf sets ks (names_over sets ks is) (place / n)) count c.in_ok-index.ensures.place in
    let here = place_last sets ks is k place (split_below sets c.args.subscripts.now ks k place ends c.requires.below) c.in_ok-index.ensures.within before in
    let pushed : is ++ place % length (members sets k) ∷ [] ≡ c.push.new.self.items = ap (λ n. is ++ place % n ∷ []) (sym count) ∙ sym c.in_ok-push.ensures.items in
    subst (λ js. IsPlaceOf sets js (names_over sets js c.push.new.self.items) place) (sym ends) (subst (λ hs. IsPlaceOf sets (ks ++ k ∷ []) (names_over sets (ks ++ k ∷ []) hs) place) pushed here)
