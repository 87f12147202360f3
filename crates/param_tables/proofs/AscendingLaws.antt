-- Lists of numbers that ascend, and what they contain.
use Rattle.param_tables.proofs.Common.{◌≡◌, ℕ, zero, suc, ◌+◌, ◌<◌, ◌≤◌, Bool, true, false, cond, List, [], ◌∷◌, ◌++◌, length, map, get_or, take, drop, refl, sym, ap, ◌∙◌, inl, inr, arith, ◌⊎◌, Contains, filter, range_with_len, IsStrictlyIncreasing, cases_eq, false≢true, append-nil, get_or-map, get_or_default, length-map, map-id, take-append-drop, take_at, filter-append, filter_of_map_range_with_len_more, map-range_with_len_more, take-map-range_with_len}
use Rattle.param_tables.proofs.EntryLaws.{first_below, later}

-- ---- members

pub contains_later : {X : Type 0} (x : X) (xs : List X) (z : X) → Contains xs z → Contains (x ∷ xs) z
contains_later x xs z has = let below = has.1 in (suc has.0, omega arith, has.2)

pub contains_cases : {X : Type 0} (x : X) (xs : List X) (z : X) → Contains (x ∷ xs) z → (x ≡ z) ⊎ Contains xs z
contains_cases x xs z has = by has.0 has.1 has.2
  where
    by : (k : ℕ) → k < length (x ∷ xs) → get_or (x ∷ xs) k z ≡ z → (x ≡ z) ⊎ Contains xs z
    by zero below at = inl at
    by (suc k) below at = inr (k, omega arith, at)

pub contains_map : {X Y : Type 0} (f : X → Y) (xs : List X) (x : X) → Contains xs x → Contains (map f xs) (f x)
contains_map f xs x has = let below = has.1 in (has.0, omega (arith, length-map xs f), get_or-map f xs has.0 x (f x) has.1 ∙ ap f has.2)

pub contains_from_map : {X Y : Type 0} (f : X → Y) (xs : List X) (y : Y) → Contains (map f xs) y → (x : X) × Contains xs x × (f x ≡ y)
contains_from_map f [] y has = let below = has.1 in absurd (omega arith)
contains_from_map f (x ∷ xs) y has = elim (contains_cases (f x) (map f xs) y has) [
  | inl here ↦ (x, (zero, omega arith, refl), here)
  | inr others ↦ let there = contains_from_map f xs y others in (there.0, contains_later x xs there.0 there.1, there.2)
]

module _ {X : Type 0} (p : X → Bool) where
  pub contains_filter : (xs : List X) (z : X) → Contains xs z → p z ≡ true → Contains (filter p xs) z
  contains_filter [] z has passes = has
  contains_filter (x ∷ xs) z has passes = by (λ others. contains_filter xs z others passes) (p x) refl
    where
      by : (Contains xs z → Contains (filter p xs) z) → (b : Bool) → p x ≡ b → Contains (cond b (x ∷ filter p xs) (filter p xs)) z
      by rest true e = elim (contains_cases x xs z has) [
        | inl here ↦ (zero, omega arith, here)
        | inr others ↦ contains_later x (filter p xs) z (rest others)
      ]
      by rest false e = elim (contains_cases x xs z has) [
        | inl here ↦ absurd (false≢true (sym e ∙ ap p here ∙ passes))
        | inr others ↦ rest others
      ]

  pub contains_from_filter : (xs : List X) (z : X) → Contains (filter p xs) z → Contains xs z × (p z ≡ true)
  contains_from_filter [] z has = let below = has.1 in absurd (omega arith)
  contains_from_filter (x ∷ xs) z has = by (λ others. contains_from_filter xs z others) (p x) refl has
    where
      by : (Contains (filter p xs) z → Contains xs z × (p z ≡ true)) → (b : Bool) → p x ≡ b → Contains (cond b (x ∷ filter p xs) (filter p xs)) z → Contains (x ∷ xs) z × (p z ≡ true)
      by from true e found = elim (contains_cases x (filter p xs) z found) [
        | inl here ↦ ((zero, omega arith, here), ap p (sym here) ∙ e)
        | inr others ↦ let rest = from others in (contains_later x xs z rest.0, rest.1)
      ]
      by from false e found = let rest = from found in (contains_later x xs z rest.0, rest.1)

-- ---- a list that ascends is the filter that has the same members

above_first : (x : ℕ) (xs : List ℕ) (z : ℕ) → IsStrictlyIncreasing (x ∷ xs) → Contains xs z → x < z
above_first x xs z rising has =
    let below : x < get_or xs has.0 0 = first_below x xs rising has.0 has.1 in
    let at : get_or xs has.0 0 ≡ z = get_or_default xs has.0 0 z has.1 ∙ has.2 in
    omega arith

-- from a on, and before a + n
module _ (test : ℕ → Bool) where
  record AreThose (a n : ℕ) (xs : List ℕ) : Type 0 where
    rising : IsStrictlyIncreasing xs
    inside : (x : ℕ) → Contains xs x → (a ≤ x) × (x < a + n) × (test x ≡ true)
    all : (x : ℕ) → a ≤ x → x < a + n → test x ≡ true → Contains xs x

  -- the first is a, where a passes
  first_is : (a n x : ℕ) (xs : List ℕ) → AreThose a (suc n) (x ∷ xs) → test a ≡ true → x ≡ a
  first_is a n x xs those passes =
      let first = those.inside x (zero, omega arith, refl) in
      let low : a ≤ x = first.0 in
      elim (contains_cases x xs a (those.all a (omega arith) (omega arith) passes)) [
        | inl here ↦ here
        | inr others ↦ let less : x < a = above_first x xs a those.rising others in absurd (omega arith)
      ]

  -- the others are from a + 1 on
  others_are : (a n x : ℕ) (xs : List ℕ) → AreThose a (suc n) (x ∷ xs) → x ≡ a → AreThose (a + 1) n xs
  others_are a n x xs those first = record {
    rising = later x xs those.rising;
    inside = λ z has.
        let found = those.inside z (contains_later x xs z has) in
        let high : z < a + suc n = found.1 in
        let less : x < z = above_first x xs z those.rising has in
        (omega arith, omega arith, found.2);
    all = λ z low high passes. elim (contains_cases x xs z (those.all z (omega arith) (omega arith) passes)) [
      | inl here ↦ absurd (omega arith)
      | inr others ↦ others
    ];
  }

  -- all are, where a doesn't pass
  all_are : (a n : ℕ) (xs : List ℕ) → AreThose a (suc n) xs → test a ≡ false → AreThose (a + 1) n xs
  all_are a n xs those fails = record {
    rising = those.rising;
    inside = λ z has.
        let found = those.inside z has in
        let low : a ≤ z = found.0 in
        let high : z < a + suc n = found.1 in
        elim (cases_eq z a) [
          | inl same ↦ absurd (false≢true (sym fails ∙ ap test (sym same) ∙ found.2))
          | inr other ↦ (omega arith, omega arith, found.2)
        ];
    all = λ z low high passes. those.all z (omega arith) (omega arith) passes;
  }

  those_filtered : (a n : ℕ) (xs : List ℕ) → AreThose a n xs → xs ≡ filter test (range_with_len a n)
  those_filtered a zero [] those = refl
  those_filtered a zero (x ∷ xs) those =
      let first = those.inside x (zero, omega arith, refl) in
      let low : a ≤ x = first.0 in
      let high : x < a + zero = first.1 in
      absurd (omega arith)
  those_filtered a (suc n) [] those = by (λ zs h. those_filtered (a + 1) n zs h) (test a) refl
    where
      by : ((zs : List ℕ) → AreThose (a + 1) n zs → zs ≡ filter test (range_with_len (a + 1) n)) → (b : Bool) → test a ≡ b → [] ≡ cond b (a ∷ filter test (range_with_len (a + 1) n)) (filter test (range_with_len (a + 1) n))
      by rest true e = let has = those.all a (omega arith) (omega arith) e in let below = has.1 in absurd (omega arith)
      by rest false e = rest [] (all_are a n [] those e)
  those_filtered a (suc n) (x ∷ xs) those = by (λ zs h. those_filtered (a + 1) n zs h) (test a) refl
    where
      by : ((zs : List ℕ) → AreThose (a + 1) n zs → zs ≡ filter test (range_with_len (a + 1) n)) → (b : Bool) → test a ≡ b → x ∷ xs ≡ cond b (a ∷ filter test (range_with_len (a + 1) n)) (filter test (range_with_len (a + 1) n))
      by rest true e =
          let first = first_is a n x xs those e in
          ap (λ y. y ∷ xs) first ∙ ap (λ ys. a ∷ ys) (rest xs (others_are a n x xs those first))
      by rest false e = rest (x ∷ xs) (all_are a n (x ∷ xs) those e)

  pub ascending_filter : (n : ℕ) (xs : List ℕ) → IsStrictlyIncreasing xs → ((x : ℕ) → Contains xs x → (x < n) × (test x ≡ true)) → ((x : ℕ) → x < n → test x ≡ true → Contains xs x) → xs ≡ filter test (range_with_len 0 n)
  ascending_filter n xs rising inside all = those_filtered 0 n xs (record {
    rising = rising;
    inside = λ x has. let found = inside x has in let below = found.0 in (omega arith, omega arith, found.1);
    all = λ x low high passes. all x (omega arith) passes;
  })

-- ---- the numbers below n that pass, number by number

pub range_more : (n : ℕ) → range_with_len 0 (n + 1) ≡ range_with_len 0 n ++ n ∷ []
range_more n = sym (map-id (range_with_len 0 (n + 1))) ∙ map-range_with_len_more (λ x. x) 0 n n (omega arith) ∙ ap (λ xs. xs ++ n ∷ []) (map-id (range_with_len 0 n))

filter_range : (p : ℕ → Bool) (n : ℕ) → filter p (range_with_len 0 (n + 1)) ≡ filter p (range_with_len 0 n) ++ cond (p n) (n ∷ []) []
filter_range p n = ap (filter p) (range_more n) ∙ filter-append p (range_with_len 0 n) (n ∷ [])

pub range_kept : (p : ℕ → Bool) (n : ℕ) (so_far : List ℕ) → p n ≡ true → so_far ≡ filter p (range_with_len 0 n) → so_far ++ n ∷ [] ≡ filter p (range_with_len 0 (n + 1))
range_kept p n so_far passes is = ap (λ xs. xs ++ n ∷ []) is ∙ sym (filter_range p n ∙ ap (λ b. filter p (range_with_len 0 n) ++ cond b (n ∷ []) []) passes)

pub range_left : (p : ℕ → Bool) (n : ℕ) (so_far : List ℕ) → p n ≡ false → so_far ≡ filter p (range_with_len 0 n) → so_far ≡ filter p (range_with_len 0 (n + 1))
range_left p n so_far fails is = is ∙ sym (filter_range p n ∙ ap (λ b. filter p (range_with_len 0 n) ++ cond b (n ∷ []) []) fails ∙ append-nil (filter p (range_with_len 0 n)))

module _ {X : Type 0} (p : X → Bool) (f : ℕ → X) where
  pub mapped_kept : (n : ℕ) (so_far : List X) → p (f n) ≡ true → so_far ≡ filter p (map f (range_with_len 0 n)) → so_far ++ f n ∷ [] ≡ filter p (map f (range_with_len 0 (n + 1)))
  mapped_kept n so_far passes is = ap (λ xs. xs ++ f n ∷ []) is ∙ sym (filter_of_map_range_with_len_more p f 0 n n (omega arith) ∙ ap (λ b. filter p (map f (range_with_len 0 n)) ++ cond b (f n ∷ []) []) passes)

  pub mapped_left : (n : ℕ) (so_far : List X) → p (f n) ≡ false → so_far ≡ filter p (map f (range_with_len 0 n)) → so_far ≡ filter p (map f (range_with_len 0 (n + 1)))
  mapped_left n so_far fails is = is ∙ sym (filter_of_map_range_with_len_more p f 0 n n (omega arith) ∙ ap (λ b. filter p (map f (range_with_len 0 n)) ++ cond b (f n ∷ []) []) fails ∙ append-nil (filter p (map f (range_with_len 0 n))))

  -- where so many are found, they are the first of all
  pub mapped_first : (n end most : ℕ) (so_far : List X) → n ≤ end → length so_far ≡ most → so_far ≡ filter p (map f (range_with_len 0 n)) → so_far ≡ take most (filter p (map f (range_with_len 0 end)))
  mapped_first n end most so_far low long is =
      let xs : List X = map f (range_with_len 0 end) in
      let found : filter p (take n xs) ≡ so_far = ap (filter p) (take-map-range_with_len f 0 end n low) ∙ sym is in
      let whole : filter p xs ≡ so_far ++ filter p (drop n xs) =
      ap (filter p) (sym (take-append-drop n xs)) ∙ filter-append p (take n xs) (drop n xs) ∙ ap (λ earlier. earlier ++ filter p (drop n xs)) found in
      sym (ap (take most) whole ∙ take_at so_far (filter p (drop n xs)) most long)
