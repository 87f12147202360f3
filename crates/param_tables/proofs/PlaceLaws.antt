-- The place of an index, subscript by subscript.
use Rattle.param_tables.proofs.Common.{◌≡◌, ℕ, zero, suc, ◌+◌, ◌-◌, ◌*◌, ◌/◌, ◌%◌, ◌^◌, ◌<◌, ◌≤◌, Bool, true, false, cond, ◌&&◌, List, [], ◌∷◌, ◌++◌, None, Some, length, take, drop, get_or, refl, sym, ap, ◌∙◌, subst, inl, inr, arith, nat_le, nat_lt, slice_index_or, is_some, list_any, position_or_len, bytes_eq, cases_lt, leb-true, lt-ltb, le-ltb, drop_more, length-take, take_more, AllZip-long, all_zipped_more, bytes_eq-Decides, indices_over, SetLists, members, is_among, index_of, AreSets, IsSet, limits, limit_of, IsPlaceOf, are_members, ArePositions, names_over}
use Rattle.std.specs.Prelude.{position}
use Rattle.std.proofs.lemmas.List.Quantifiers.{position-Some}
use Rattle.std.proofs.lemmas.List.Sums.{AllPass-from_list_all}
use Rattle.param_tables.proofs.IndexLaws.{IsPart, parts, length-push, get_or-push, below-push}

-- how many indices there may be over n sets of 1000 members at most
pub most : ℕ → ℕ
most zero = 1
most (suc n) = most n * 1000

pub most-zero : most 0 ≡ 1
unfolding most
most-zero = refl

pub most-suc : (n : ℕ) → most (n + 1) ≡ most n * 1000
unfolding most
most-suc n = ap most (add_one n)
  where
    add_one : (n : ℕ) → n + 1 ≡ suc n
    add_one n = omega arith

pub most-five : (n : ℕ) → n ≤ 5 → most n ≤ 10 ^ 15
unfolding most
most-five zero low = omega arith
most-five (suc zero) low = omega arith
most-five (suc (suc zero)) low = omega arith
most-five (suc (suc (suc zero))) low = omega arith
most-five (suc (suc (suc (suc zero)))) low = omega arith
most-five (suc (suc (suc (suc (suc zero))))) low = omega arith
most-five (suc (suc (suc (suc (suc (suc n)))))) low = absurd (omega arith)

pub most-four : (n : ℕ) → n ≤ 4 → most n ≤ 10 ^ 12
unfolding most
most-four zero low = omega arith
most-four (suc zero) low = omega arith
most-four (suc (suc zero)) low = omega arith
most-four (suc (suc (suc zero))) low = omega arith
most-four (suc (suc (suc (suc zero)))) low = omega arith
most-four (suc (suc (suc (suc (suc n))))) low = absurd (omega arith)

-- a step keeps within the bound
pub small_more : (place count member n : ℕ) → place < most n → count ≤ 1000 → member < count → place * count + member < most (n + 1)
small_more place count member n below many inside =
    let next : most (n + 1) ≡ most n * 1000 = most-suc n in
    let a : (place + 1) * count ≤ most n * count = grind arith in
    let b : most n * count ≤ most n * 1000 = grind arith in
    omega arith

pub count_more : (count more n : ℕ) → count ≤ most n → more ≤ 1000 → count * more ≤ most (n + 1)
count_more count more n low many =
    let next : most (n + 1) ≡ most n * 1000 = most-suc n in
    let a : count * more ≤ most n * more = grind arith in
    let b : most n * more ≤ most n * 1000 = grind arith in
    omega arith

-- a set has 1000 members at most
pub members-most : (sets : SetLists) (k : ℕ) → AreSets sets → IsSet k → length (members sets k) ≤ 1000
members-most sets k are is =
    let low = is.0 in
    let high = is.1 in
    let limit : limit_of k ≤ 1000 = leb-true (limit_of k) 1000 (AllPass-from_list_all (λ n. nat_le n 1000) limits refl (k - 1) 0 (omega arith)) in
    let within = (are.rules k is).within in
    omega arith

-- ---- names and positions

bytes_same : (xs ys : List ℕ) → bytes_eq xs ys ≡ true → xs ≡ ys
bytes_same xs ys same = (bytes_eq-Decides xs ys).0 same

pub index_of-found : (names : List (List ℕ)) (name : List ℕ) (i : ℕ) → index_of names name ≡ Some i → slice_index_or names i [] ≡ name
index_of-found names name i found = sym (bytes_same name (get_or names i []) (position-Some (bytes_eq name) names i [] found).1)

lt_sucs : (m n : ℕ) → nat_lt (1 + m) (suc n) ≡ nat_lt m n
lt_sucs m n = elim (cases_lt m n) [
  | inl below ↦ lt-ltb (1 + m) (suc n) (omega arith) ∙ sym (lt-ltb m n below)
  | inr above ↦ le-ltb (1 + m) (suc n) (omega arith) ∙ sym (le-ltb m n above)
]

any_step : {X : Type 0} (p : X → Bool) (x : X) (xs : List X) (b : Bool) → p x ≡ b → nat_lt (position_or_len p xs) (length xs) ≡ list_any p xs → nat_lt (position_or_len p (x ∷ xs)) (length (x ∷ xs)) ≡ list_any p (x ∷ xs)
any_step p x xs true e others = simp e (lt-ltb 0 (suc (length xs)) (omega arith))
any_step p x xs false e others = simp e (lt_sucs (position_or_len p xs) (length xs) ∙ others)

any_at_position : {X : Type 0} (p : X → Bool) (xs : List X) → nat_lt (position_or_len p xs) (length xs) ≡ list_any p xs
any_at_position p [] = refl
any_at_position p (x ∷ xs) = any_step p x xs (p x) refl (any_at_position p xs)

-- a position is found where one passes
pub is_some-position : {X : Type 0} (p : X → Bool) (xs : List X) → is_some (position p xs) ≡ list_any p xs
is_some-position p xs = of_cond (nat_lt (position_or_len p xs) (length xs)) (position_or_len p xs) ∙ any_at_position p xs
  where
    of_cond : (b : Bool) (i : ℕ) → is_some (cond b (Some i) None) ≡ b
    of_cond true i = refl
    of_cond false i = refl

pub is_some-index_of : (names : List (List ℕ)) (name : List ℕ) → is_some (index_of names name) ≡ is_among names name
is_some-index_of names name = is_some-position (bytes_eq name) names

-- ---- places

pub place_none : (sets : SetLists) → IsPlaceOf sets [] [] 0
place_none sets = record { below = omega arith; at = refl }

pub place_more : (sets : SetLists) (ks : List ℕ) (index : List (List ℕ)) (place k i : ℕ) → IsPlaceOf sets ks index place → i < length (members sets k) → IsPlaceOf sets (ks ++ k ∷ []) (index ++ slice_index_or (members sets k) i [] ∷ []) (place * length (members sets k) + i)
place_more sets ks index place k i so_far inside = record {
  below = below-push sets ks k place i so_far.below inside;
  at = get_or-push sets ks k place i so_far.below inside ∙ ap (λ front. front ++ slice_index_or (members sets k) i [] ∷ []) so_far.at;
}

pub are_members-more : (sets : SetLists) (ks : List ℕ) (names : List (List ℕ)) (i : ℕ) (name : List ℕ) → i < length ks → i < length names → get_or names i name ≡ name → are_members sets (drop i ks) (drop i names) ≡ (is_among (members sets (get_or ks i 0)) name && are_members sets (drop (i + 1) ks) (drop (i + 1) names))
are_members-more sets ks names i name bk bn en =
    ap (λ js. are_members sets js (drop i names)) (drop_more ks i 0 bk)
    ∙ ap (are_members sets (get_or ks i 0 ∷ drop (i + 1) ks)) (drop_more names i name bn ∙ ap (λ n. n ∷ drop (i + 1) names) en)

-- one more subscript of a list of subscripts, with the member at position m
pub place_step : (sets : SetLists) (ks : List ℕ) (index longer : List (List ℕ)) (i place m : ℕ) → i < length ks → m < length (members sets (get_or ks i 0)) → index ++ slice_index_or (members sets (get_or ks i 0)) m [] ∷ [] ≡ longer → IsPlaceOf sets (take i ks) index place → IsPlaceOf sets (take (i + 1) ks) longer (place * length (members sets (get_or ks i 0)) + m)
place_step sets ks index longer i place m below inside ends so_far =
    let k = get_or ks i 0 in
    let next = place * length (members sets k) + m in
    let more = place_more sets (take i ks) index place k m so_far inside in
    subst (λ js. IsPlaceOf sets js longer next) (sym (take_more ks i 0 below)) (subst (λ names. IsPlaceOf sets (take i ks ++ k ∷ []) names next) ends more)

-- ---- positions

pub position_within : (sets : SetLists) (ks is : List ℕ) (i : ℕ) → ArePositions sets ks is → i < length ks → get_or is i 0 < length (members sets (get_or ks i 0))
position_within sets [] is i all below = absurd (omega arith)
position_within sets (k ∷ ks) [] i all below = absurd all
position_within sets (k ∷ ks) (j ∷ is) zero all below = all.0
position_within sets (k ∷ ks) (j ∷ is) (suc i) all below = position_within sets ks is i all.1 (omega arith)

pub names_over-push : (sets : SetLists) (ks is : List ℕ) (k j : ℕ) → length is ≡ length ks → names_over sets (ks ++ k ∷ []) (is ++ j ∷ []) ≡ names_over sets ks is ++ slice_index_or (members sets k) j [] ∷ []
names_over-push sets [] [] k j long = refl
names_over-push sets [] (h ∷ is) k j long = absurd (omega arith)
names_over-push sets (g ∷ ks) [] k j long = absurd (omega arith)
names_over-push sets (g ∷ ks) (h ∷ is) k j long = ap (λ names. slice_index_or (members sets g) h [] ∷ names) (names_over-push sets ks is k j (omega arith))

pub ArePositions-push : (sets : SetLists) (ks is : List ℕ) (k j : ℕ) → ArePositions sets ks is → j < length (members sets k) → ArePositions sets (ks ++ k ∷ []) (is ++ j ∷ [])
ArePositions-push sets ks is k j all inside = all_zipped_more (λ g h. h < length (members sets g)) ks is k j all inside

pub names_over-more : (sets : SetLists) (ks is : List ℕ) (i : ℕ) → length is ≡ length ks → i < length ks → names_over sets (take i ks) (take i is) ++ slice_index_or (members sets (get_or ks i 0)) (get_or is i 0) [] ∷ [] ≡ names_over sets (take (i + 1) ks) (take (i + 1) is)
names_over-more sets ks is i long below =
    let same : length (take i is) ≡ length (take i ks) = simp (length-take, long) in
    sym (names_over-push sets (take i ks) (take i is) (get_or ks i 0) (get_or is i 0) same)
    ∙ ap (λ js. names_over sets js (take i is ++ get_or is i 0 ∷ [])) (sym (take_more ks i 0 below))
    ∙ ap (names_over sets (take (i + 1) ks)) (sym (take_more is i 0 (omega arith)))

-- ---- the index at a place

-- what a place says of the last subscript and of those before it
pub place_parts : (sets : SetLists) (ks : List ℕ) (k place : ℕ) → place < length (indices_over sets (ks ++ k ∷ [])) → IsPart (length (indices_over sets ks)) (length (members sets k)) place
place_parts sets ks k place below = let long = length-push sets ks k in parts (length (indices_over sets ks)) (length (members sets k)) place (omega arith)

pub place_last : (sets : SetLists) (ks is : List ℕ) (k place : ℕ) → place < length (indices_over sets (ks ++ k ∷ [])) → ArePositions sets ks is → IsPlaceOf sets ks (names_over sets ks is) (place / length (members sets k)) → IsPlaceOf sets (ks ++ k ∷ []) (names_over sets (ks ++ k ∷ []) (is ++ place % length (members sets k) ∷ [])) place
place_last sets ks is k place below within before =
    let n = length (members sets k) in
    let part = place_parts sets ks k place below in
    let long : length is ≡ length ks = AllZip-long (λ g h. h < length (members sets g)) ks is within in
    let here = place_more sets ks (names_over sets ks is) (place / n) k (place % n) before part.place in
    subst (λ names. IsPlaceOf sets (ks ++ k ∷ []) names place) (sym (names_over-push sets ks is k (place % n) long)) (subst (IsPlaceOf sets (ks ++ k ∷ []) (names_over sets ks is ++ slice_index_or (members sets k) (place % n) [] ∷ [])) (sym part.whole) here)
