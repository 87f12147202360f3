-- A stable sort by how far the size is below a greatest one is the order of the greatest first: there is only one such order.
use Rattle.plan_compare.proofs.Common.{◌≡◌, ℕ, suc, ◌-◌, ◌<◌, ◌≤◌, Bool, true, false, not, ◌&&◌, cond, List, [], ◌∷◌, length, get_or, refl, ap, ap₂, sym, ◌∙◌, arith, nat_eq, nat_le, nat_tests, greatest_first, inserted}
use Rattle.std.specs.List.{AllByRecursion, filter}
use Rattle.std.specs.List.Sorted.{IsNonDecreasingBy, IsStableByKey, ties}
use Rattle.std.specs.Ordering.{is_lt, nat_cmp}

-- elements of one number tie, and no others
tied : (i j : ℕ) → (not (is_lt (nat_cmp i j)) && not (is_lt (nat_cmp j i))) ≡ nat_eq i j
tied i j = grind (arith, nat_tests)

module _ {X : Type 0} (n : X → ℕ) where
  -- those of the number of x
  abbrev pub beside : X → List X → List X
  beside x ys = filter (λ y. nat_eq (n x) (n y)) ys

  -- each number is at least those before it
  abbrev pub Rises : List X → Type 0
  Rises [] = Unit {0}
  Rises (y ∷ ys) = AllByRecursion (λ z. n y ≤ n z) ys × Rises ys

  abbrev pub AgreeBeside : List X → List X → Type 0
  AgreeBeside xs ys = (x : X) → beside x xs ≡ beside x ys

  -- ---- one order

  none_beside : (x : X) (ys : List X) → AllByRecursion (λ z. n x < n z) ys → beside x ys ≡ []
  none_beside x [] all = refl
  none_beside x (y ∷ ys) all =
      let apart : nat_eq (n x) (n y) ≡ false = let below : n x < n y = all.0 in grind (arith, nat_tests) in
      ap (λ b. cond b (y ∷ beside x ys) (beside x ys)) apart ∙ none_beside x ys all.1

  above : (i : ℕ) (y : X) (ys : List X) → i < n y → AllByRecursion (λ z. n y ≤ n z) ys → AllByRecursion (λ z. i < n z) ys
  above i y [] h all = tt
  above i y (z ∷ ys) h all = (let rises : n y ≤ n z = all.0 in omega arith, above i y ys h all.1)

  self_beside : (x : X) (xs : List X) → beside x (x ∷ xs) ≡ x ∷ beside x xs
  self_beside x xs = ap (λ b. cond b (x ∷ beside x xs) (beside x xs)) (let same : nat_eq (n x) (n x) ≡ true = grind (arith, nat_tests) in same)

  empty : (x : X) (xs : List X) → (x ∷ xs) ≡ [] → ⊥
  empty x xs e = cc e

  not_below : (u v : X) (us vs : List X) → Rises (v ∷ vs) → beside u (u ∷ us) ≡ beside u (v ∷ vs) → n u < n v → ⊥
  not_below u v us vs rises same h =
      empty u (beside u us) (sym (self_beside u us) ∙ same ∙ none_beside u (v ∷ vs) (h, above (n u) v vs h rises.0))

  heads : (u v : X) (us vs : List X) → (u ∷ us) ≡ (v ∷ vs) → (u ≡ v) × (us ≡ vs)
  heads u v us vs e = (ap (λ xs. get_or xs 0 u) e, ap tail e)
    where
      tail : List X → List X
      tail [] = []
      tail (x ∷ xs) = xs

  pub one_order : (us vs : List X) → Rises us → Rises vs → AgreeBeside us vs → us ≡ vs
  one_order [] [] ru rv same = refl
  one_order [] (v ∷ vs) ru rv same = absurd (empty v (beside v vs) (sym (self_beside v vs) ∙ sym (same v)))
  one_order (u ∷ us) [] ru rv same = absurd (empty u (beside u us) (sym (self_beside u us) ∙ same u))
  one_order (u ∷ us) (v ∷ vs) ru rv same =
      let equal : n u ≡ n v = by_test (n u) (n v) (not_below u v us vs rv (same u)) (not_below v u vs us ru (sym (same v))) in
      let here : beside u (v ∷ vs) ≡ v ∷ beside u vs = ap (λ b. cond b (v ∷ beside u vs) (beside u vs)) (test_of (n u) (n v) equal) in
      let both = heads u v (beside u us) (beside u vs) (sym (self_beside u us) ∙ same u ∙ here) in
      ap₂ (λ (x : X) (xs : List X). x ∷ xs) both.0 (one_order us vs ru.1 rv.1 (λ x. rest x (nat_eq (n x) (n u)) refl equal both.0 (same x)))
    where
      by_test : (i j : ℕ) → (i < j → ⊥) → (j < i → ⊥) → i ≡ j
      by_test i j a b = omega arith

      test_of : (i j : ℕ) → i ≡ j → nat_eq i j ≡ true
      test_of i j e = grind (arith, nat_tests)

      rest : (x : X) (b : Bool) → nat_eq (n x) (n u) ≡ b → n u ≡ n v → u ≡ v → beside x (u ∷ us) ≡ beside x (v ∷ vs) → beside x us ≡ beside x vs
      rest x b is equal first e =
          let at_v : nat_eq (n x) (n v) ≡ b = ap (λ i. nat_eq (n x) i) (sym equal) ∙ is in
          let left : beside x (u ∷ us) ≡ cond b (u ∷ beside x us) (beside x us) = ap (λ c. cond c (u ∷ beside x us) (beside x us)) is in
          let right : beside x (v ∷ vs) ≡ cond b (v ∷ beside x vs) (beside x vs) = ap (λ c. cond c (v ∷ beside x vs) (beside x vs)) at_v in
          by b (sym left ∙ e ∙ right)
        where
          by : (b : Bool) → cond b (u ∷ beside x us) (beside x us) ≡ cond b (v ∷ beside x vs) (beside x vs) → beside x us ≡ beside x vs
          by true e = (heads u v (beside x us) (beside x vs) e).1
          by false e = e

  -- ---- what a sort ensures

  at_each : (i : ℕ) (ys : List X) → ((j : ℕ) (d : X) → j < length ys → i ≤ n (get_or ys j d)) → AllByRecursion (λ z. i ≤ n z) ys
  at_each i [] all = tt
  at_each i (y ∷ ys) all = (all 0 y (omega arith), at_each i ys (λ j d h. all (suc j) d (omega arith)))

  pub rises_from : (ys : List X) → IsNonDecreasingBy n ys → Rises ys
  rises_from [] sorted = tt
  rises_from (y ∷ ys) sorted =
      (at_each (n y) ys (λ j d h. sorted 0 (suc j) d (omega arith) (omega arith)), rises_from ys (λ i j d a b. sorted (suc i) (suc j) d (omega arith) (omega arith)))

  pub agree_from : (xs ys : List X) → IsStableByKey n nat_cmp xs ys → AgreeBeside ys xs
  agree_from xs ys stable x = sym (by_ties ys) ∙ stable x ∙ by_ties xs
    where
      by_ties : (zs : List X) → filter (ties (λ a b. is_lt (nat_cmp (n a) (n b))) x) zs ≡ beside x zs
      by_ties [] = refl
      by_ties (z ∷ zs) = ap₂ (λ b more. cond b (z ∷ more) more) (tied (n x) (n z)) (by_ties zs)

-- ---- the greatest first

module _ {X : Type 0} (size : X → ℕ) (most : ℕ) (small : (x : X) → size x ≤ most) where
  -- how far the size is below the greatest
  abbrev pub rank : X → ℕ
  rank x = most - size x

  all_inserted : (i : ℕ) (x : X) (ys : List X) → i ≤ rank x → AllByRecursion (λ z. i ≤ rank z) ys → AllByRecursion (λ z. i ≤ rank z) (inserted size x ys)
  all_inserted i x [] h all = (h, tt)
  all_inserted i x (y ∷ ys) h all = by (nat_le (size y) (size x)) (all_inserted i x ys h all.1)
    where
      by : (b : Bool) → AllByRecursion (λ z. i ≤ rank z) (inserted size x ys) → AllByRecursion (λ z. i ≤ rank z) (cond b (x ∷ y ∷ ys) (y ∷ inserted size x ys))
      by true later = (h, all)
      by false later = (all.0, later)

  at_least : (i j : ℕ) (ys : List X) → i ≤ j → AllByRecursion (λ z. j ≤ rank z) ys → AllByRecursion (λ z. i ≤ rank z) ys
  at_least i j [] h all = tt
  at_least i j (y ∷ ys) h all = (let rises : j ≤ rank y = all.0 in omega arith, at_least i j ys h all.1)

  pub inserted_rises : (x : X) (ys : List X) → Rises rank ys → Rises rank (inserted size x ys)
  inserted_rises x [] rises = (tt, tt)
  inserted_rises x (y ∷ ys) rises = by (nat_le (size y) (size x)) refl (inserted_rises x ys rises.1)
    where
      by : (b : Bool) → nat_le (size y) (size x) ≡ b → Rises rank (inserted size x ys) → Rises rank (cond b (x ∷ y ∷ ys) (y ∷ inserted size x ys))
      by true is later =
          let below : size y ≤ size x = grind (arith, nat_tests) in
          let under : rank x ≤ rank y = omega arith in
          ((under, at_least (rank x) (rank y) ys under rises.0), rises)
      by false is later =
          let over : size x < size y = grind (arith, nat_tests) in
          let under : rank y ≤ rank x = omega arith in
          (all_inserted (rank y) x ys under rises.0, later)

  pub inserted_agrees : (x : X) (ys : List X) → AgreeBeside rank (inserted size x ys) (x ∷ ys)
  inserted_agrees x [] z = refl
  inserted_agrees x (y ∷ ys) z = by (nat_le (size y) (size x)) refl (inserted_agrees x ys z)
    where
      by : (b : Bool) → nat_le (size y) (size x) ≡ b → beside rank z (inserted size x ys) ≡ beside rank z (x ∷ ys) → beside rank z (cond b (x ∷ y ∷ ys) (y ∷ inserted size x ys)) ≡ beside rank z (x ∷ y ∷ ys)
      by true is later = refl
      by false is later =
          let over : size x < size y = grind (arith, nat_tests) in
          let fits : size y ≤ most = small y in
          let apart : rank y < rank x = omega arith in
          ap (λ more. cond (nat_eq (rank z) (rank y)) (y ∷ more) more) later
          ∙ swapped (nat_eq (rank z) (rank x)) (nat_eq (rank z) (rank y)) refl refl apart
        where
          swapped : (a b : Bool) → nat_eq (rank z) (rank x) ≡ a → nat_eq (rank z) (rank y) ≡ b → rank y < rank x
              → cond b (y ∷ cond a (x ∷ beside rank z ys) (beside rank z ys)) (cond a (x ∷ beside rank z ys) (beside rank z ys))
              ≡ cond a (x ∷ cond b (y ∷ beside rank z ys) (beside rank z ys)) (cond b (y ∷ beside rank z ys) (beside rank z ys))
          swapped true true at_x at_y apart = absurd (both (rank z) (rank x) (rank y) at_x at_y apart)
            where
              both : (i j l : ℕ) → nat_eq i j ≡ true → nat_eq i l ≡ true → l < j → ⊥
              both i j l a b h = grind (arith, nat_tests)
          swapped true false at_x at_y apart = refl
          swapped false true at_x at_y apart = refl
          swapped false false at_x at_y apart = refl

  pub rises : (xs : List X) → Rises rank (greatest_first size xs)
  rises [] = tt
  rises (x ∷ xs) = inserted_rises x (greatest_first size xs) (rises xs)

  pub agrees : (xs : List X) → AgreeBeside rank (greatest_first size xs) xs
  agrees [] z = refl
  agrees (x ∷ xs) z =
      inserted_agrees x (greatest_first size xs) z ∙ ap (λ more. cond (nat_eq (rank z) (rank x)) (x ∷ more) more) (agrees xs z)

  -- a stable sort by the rank is this order
  pub sorted_is : (xs ys : List X) → IsNonDecreasingBy rank ys → IsStableByKey rank nat_cmp xs ys → ys ≡ greatest_first size xs
  sorted_is xs ys sorted stable =
      one_order rank ys (greatest_first size xs) (rises_from rank ys sorted) (rises xs) (λ x. agree_from rank xs ys stable x ∙ sym (agrees xs x))
