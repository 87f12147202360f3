-- Values by the keys of their names: what a file tells.
use Rattle.plan_files.proofs.Common.{◌≡◌, suc, Bool, true, false, ◌&&◌, List, [], ◌∷◌, length, map, filter, Option, Some, None, refl, sym, ap, ap₂, ◌∙◌, arith, if◌then◌else◌, is_some, not, IsTotalOrder, find, option_map, is_lt, Ordering, value_of, Frac, ascends, before_first, keys_of, valued, ascends-skip, both_passed, AreGiven, Fields, Gives, is_named_in, record_of, AreTaken, first_without, with_values}
use Rattle.plan_files.proofs.TakenLaws.{none_given, some_given}

pub keys_valued : {K : Type 0} (es : List (K × Frac)) → keys_of (map valued es) ≡ keys_of es
keys_valued [] = refl
keys_valued (e ∷ es) = ap (λ ks. e.0 ∷ ks) (keys_valued es)

-- with a value for each key, all keys
pub all_keys : {K : Type 0} (keys : List K) (values : List (Option Frac)) → length values ≡ length keys → first_without keys values ≡ None → keys_of (with_values keys values) ≡ keys
all_keys [] values many none = refl
all_keys (k ∷ keys) [] many none = absurd (omega (arith, many))
all_keys (k ∷ keys) (None ∷ values) many none = absurd (cc none)
all_keys (k ∷ keys) (Some v ∷ values) many none = ap (λ ks. k ∷ ks) (all_keys keys values (omega (arith, many)) none)

module _ {K : Type 0} (f : K → Fields) (rows : List Fields) where
  abbrev named : K → Bool
  named k = is_named_in rows (f k)

  -- key by key, the value that the records give
  abbrev AreAlong : List K → List (Option Frac) → Type 0
  AreAlong [] [] = Unit {0}
  AreAlong [] (v ∷ values) = ⊥
  AreAlong (k ∷ keys) [] = ⊥
  AreAlong (k ∷ keys) (v ∷ values) = Gives rows (f k) (option_map value_of v) × AreAlong keys values

  along : (keys : List K) (values : List (Option Frac)) → AreTaken (map f keys) rows values → AreAlong keys values
  along [] [] t = tt
  along [] (v ∷ values) t = absurd (omega (arith, t.many))
  along (k ∷ keys) [] t = absurd (omega (arith, t.many))
  along (k ∷ keys) (v ∷ values) t = (t.each 0 (omega arith), along keys values (record { many = omega (arith, t.many); each = λ i l. t.each (suc i) (omega arith) }))

  unnamed : (k : K) → Gives rows (f k) None → named k ≡ false
  unnamed k g = ap is_some (none_given (record_of rows (f k)) g)

  named_by : (k : K) (v : Frac) → Gives rows (f k) (Some (value_of v)) → named k ≡ true
  named_by k v g = some_given (record_of rows (f k)) (Some (value_of v)) refl g

  keys_along : (keys : List K) (values : List (Option Frac)) → AreAlong keys values → keys_of (with_values keys values) ≡ filter named keys
  keys_along [] [] t = refl
  keys_along [] (v ∷ values) t = absurd t
  keys_along (k ∷ keys) [] t = absurd t
  keys_along (k ∷ keys) (None ∷ values) t = keys_along keys values t.1 ∙ sym (ap (λ b. if b then k ∷ filter named keys else filter named keys) (unnamed k t.0))
  keys_along (k ∷ keys) (Some v ∷ values) t = ap (λ ks. k ∷ ks) (keys_along keys values t.1) ∙ sym (ap (λ b. if b then k ∷ filter named keys else filter named keys) (named_by k v t.0))

  given_along : (keys : List K) (values : List (Option Frac)) → AreAlong keys values → AreGiven f rows (map valued (with_values keys values))
  given_along [] [] t = tt
  given_along [] (v ∷ values) t = absurd t
  given_along (k ∷ keys) [] t = absurd t
  given_along (k ∷ keys) (None ∷ values) t = given_along keys values t.1
  given_along (k ∷ keys) (Some v ∷ values) t = (t.0, given_along keys values t.1)

  first_along : (keys : List K) (values : List (Option Frac)) → AreAlong keys values → find (λ k. not (named k)) keys ≡ first_without keys values
  first_along [] [] t = refl
  first_along [] (v ∷ values) t = absurd t
  first_along (k ∷ keys) [] t = absurd t
  first_along (k ∷ keys) (None ∷ values) t = ap (λ b. if not b then Some k else find (λ x. not (named x)) keys) (unnamed k t.0)
  first_along (k ∷ keys) (Some v ∷ values) t = ap (λ b. if not b then Some k else find (λ x. not (named x)) keys) (named_by k v t.0) ∙ first_along keys values t.1

  -- the keys that have a value, the values, and the first key without one
  pub keys_told : (keys : List K) (values : List (Option Frac)) → AreTaken (map f keys) rows values → keys_of (with_values keys values) ≡ filter (λ k. is_named_in rows (f k)) keys
  keys_told keys values t = keys_along keys values (along keys values t)

  pub given_told : (keys : List K) (values : List (Option Frac)) → AreTaken (map f keys) rows values → AreGiven f rows (map valued (with_values keys values))
  given_told keys values t = given_along keys values (along keys values t)

  pub first_told : (keys : List K) (values : List (Option Frac)) → AreTaken (map f keys) rows values → find (λ k. not (is_named_in rows (f k))) keys ≡ first_without keys values
  first_told keys values t = first_along keys values (along keys values t)

-- ---- some keys of those that ascend

module _ {K : Type 0} (cmp : K → K → Ordering) (total : IsTotalOrder cmp) (p : K → Bool) where
  ascends_after : (x : K) (xs : List K) → ascends cmp (x ∷ xs) ≡ true → ascends cmp (x ∷ filter p xs) ≡ true
  ascends_after x [] h = h
  ascends_after x (y ∷ ys) h = by_test (p y) (ascends_after y ys (both_passed (is_lt (cmp x y)) (ascends cmp (y ∷ ys)) h).1) (ascends_after x ys (ascends-skip cmp total x y ys h))
    where
      by_test : (b : Bool) → ascends cmp (y ∷ filter p ys) ≡ true → ascends cmp (x ∷ filter p ys) ≡ true → ascends cmp (x ∷ (if b then y ∷ filter p ys else filter p ys)) ≡ true
      by_test true kept left = ap₂ (λ a b. a && b) (both_passed (is_lt (cmp x y)) (ascends cmp (y ∷ ys)) h).0 kept
      by_test false kept left = left

  pub ascends_filter : (xs : List K) → ascends cmp xs ≡ true → ascends cmp (filter p xs) ≡ true
  ascends_filter [] h = refl
  ascends_filter (x ∷ xs) h = by_test (p x) (ascends_after x xs h) (ascends_filter xs (both_passed (before_first cmp x xs) (ascends cmp xs) h).1)
    where
      by_test : (b : Bool) → ascends cmp (x ∷ filter p xs) ≡ true → ascends cmp (filter p xs) ≡ true → ascends cmp (if b then x ∷ filter p xs else filter p xs) ≡ true
      by_test true kept left = kept
      by_test false kept left = left
