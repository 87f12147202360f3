-- Refusals that are looked for item by item: a step, and the end.
use Rattle.param_tables.proofs.Common.{◌≡◌, ℕ, ◌+◌, ◌<◌, ◌≤◌, List, [], ◌∷◌, ◌++◌, Option, None, Some, length, take, drop, get_or, refl, ap, ◌∙◌, cons_option, enumerate_from, filter_map, flat_map, option_or, at_drop_all, at_drop_more, append_assoc, first_of}

module _ {X R : Type 0} (refusal_after : List X → X → Option R) where
  -- the refusals of the items from place i on
  abbrev pub in_turn_from : List X → ℕ → List R
  in_turn_from xs i = filter_map (λ (j, x). refusal_after (take j xs) x) (enumerate_from i (drop i xs))

  pub in_turn_more : (xs : List X) (i : ℕ) (d : X) → i < length xs → in_turn_from xs i ≡ cons_option (refusal_after (take i xs) (get_or xs i d)) (in_turn_from xs (i + 1))
  in_turn_more xs i d below = at_drop_more (λ ys. filter_map (λ (j, x). refusal_after (take j xs) x) (enumerate_from i ys)) xs i d below

  pub in_turn_all : (xs : List X) (i : ℕ) → length xs ≤ i → in_turn_from xs i ≡ []
  in_turn_all xs i above = at_drop_all (λ ys. filter_map (λ (j, x). refusal_after (take j xs) x) (enumerate_from i ys)) xs i above

  -- an item that isn't refused
  pub in_turn_free : (xs : List X) (i : ℕ) (d : X) (all : List R) → i < length xs → refusal_after (take i xs) (get_or xs i d) ≡ None → all ≡ in_turn_from xs i → all ≡ in_turn_from xs (i + 1)
  in_turn_free xs i d all below free so_far = so_far ∙ in_turn_more xs i d below ∙ ap (λ o. cons_option o (in_turn_from xs (i + 1))) free

  -- an item that is
  pub in_turn_refused : (xs : List X) (i : ℕ) (d : X) (all : List R) (r : R) → i < length xs → refusal_after (take i xs) (get_or xs i d) ≡ Some r → all ≡ in_turn_from xs i → first_of all ≡ Some r
  in_turn_refused xs i d all r below refused so_far = ap first_of (so_far ∙ in_turn_more xs i d below ∙ ap (λ o. cons_option o (in_turn_from xs (i + 1))) refused)

-- the first of two lists in a row
pub first_of-append : {X : Type 0} (xs ys : List X) → first_of (xs ++ ys) ≡ option_or (first_of xs) (first_of ys)
first_of-append [] ys = refl
first_of-append (x ∷ xs) ys = refl

pub first_of-found : {X : Type 0} (xs ys : List X) (x : X) → first_of xs ≡ Some x → first_of (xs ++ ys) ≡ Some x
first_of-found xs ys x found = first_of-append xs ys ∙ ap (λ o. option_or o (first_of ys)) found

module _ {X R : Type 0} (f : X → List R) (rest : List R) where
  -- the refusals of the items from place i on, and others after them
  abbrev pub rest_from : List X → ℕ → List R
  rest_from xs i = flat_map f (drop i xs) ++ rest

  pub rest_more : (xs : List X) (i : ℕ) (d : X) → i < length xs → rest_from xs i ≡ f (get_or xs i d) ++ rest_from xs (i + 1)
  rest_more xs i d below = at_drop_more (λ ys. flat_map f ys ++ rest) xs i d below ∙ append_assoc (f (get_or xs i d)) (flat_map f (drop (i + 1) xs)) rest

  pub rest_all : (xs : List X) (i : ℕ) → length xs ≤ i → rest_from xs i ≡ rest
  rest_all xs i above = at_drop_all (λ ys. flat_map f ys ++ rest) xs i above

  pub rest_free : (xs : List X) (i : ℕ) (d : X) (all : List R) → i < length xs → f (get_or xs i d) ≡ [] → all ≡ rest_from xs i → all ≡ rest_from xs (i + 1)
  rest_free xs i d all below free so_far = so_far ∙ rest_more xs i d below ∙ ap (λ rs. rs ++ rest_from xs (i + 1)) free

  pub rest_refused : (xs : List X) (i : ℕ) (d : X) (all : List R) (r : R) → i < length xs → first_of (f (get_or xs i d)) ≡ Some r → all ≡ rest_from xs i → first_of all ≡ Some r
  rest_refused xs i d all r below refused so_far = ap first_of (so_far ∙ rest_more xs i d below) ∙ first_of-found (f (get_or xs i d)) (rest_from xs (i + 1)) r refused
