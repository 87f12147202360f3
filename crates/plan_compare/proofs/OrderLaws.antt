-- What the order of the greatest first is: no element is greater than one before it, and those of one size are those that there were, in their order.
use Rattle.plan_compare.proofs.Common.{◌≡◌, ℕ, ◌<◌, ◌≤◌, Bool, true, false, cond, List, [], ◌∷◌, refl, ap, ◌∙◌, arith, nat_eq, nat_le, AllByRecursion, nat_tests, Falls, greatest_first, inserted, of_size}

module _ {X : Type 0} (size : X → ℕ) where
  all_inserted : (P : X → Type 0) (x : X) (ys : List X) → P x → AllByRecursion P ys → AllByRecursion P (inserted size x ys)
  all_inserted P x [] h all = (h, tt)
  all_inserted P x (y ∷ ys) h all = by (nat_le (size y) (size x)) (all_inserted P x ys h all.1)
    where
      by : (b : Bool) → AllByRecursion P (inserted size x ys) → AllByRecursion P (cond b (x ∷ y ∷ ys) (y ∷ inserted size x ys))
      by true later = (h, all)
      by false later = (all.0, later)

  under : (m n : ℕ) (ys : List X) → m ≤ n → AllByRecursion (λ z. size z ≤ m) ys → AllByRecursion (λ z. size z ≤ n) ys
  under m n [] h all = tt
  under m n (y ∷ ys) h all = (let below : size y ≤ m = all.0 in omega arith, under m n ys h all.1)

  inserted_falls : (x : X) (ys : List X) → Falls size ys → Falls size (inserted size x ys)
  inserted_falls x [] falls = (tt, tt)
  inserted_falls x (y ∷ ys) falls = by (nat_le (size y) (size x)) refl (inserted_falls x ys falls.1)
    where
      by : (b : Bool) → nat_le (size y) (size x) ≡ b → Falls size (inserted size x ys) → Falls size (cond b (x ∷ y ∷ ys) (y ∷ inserted size x ys))
      by true is later =
          let below : size y ≤ size x = grind (arith, nat_tests) in
          ((below, under (size y) (size x) ys below falls.0), falls)
      by false is later =
          let above : size x < size y = grind (arith, nat_tests) in
          (all_inserted (λ z. size z ≤ size y) x ys (omega arith) falls.0, later)

  pub falls : (xs : List X) → Falls size (greatest_first size xs)
  falls [] = tt
  falls (x ∷ xs) = inserted_falls x (greatest_first size xs) (falls xs)

  inserted_same : (n : ℕ) (x : X) (ys : List X) → of_size size n (inserted size x ys) ≡ of_size size n (x ∷ ys)
  inserted_same n x [] = refl
  inserted_same n x (y ∷ ys) = by (nat_le (size y) (size x)) refl (inserted_same n x ys)
    where
      by : (b : Bool) → nat_le (size y) (size x) ≡ b → of_size size n (inserted size x ys) ≡ of_size size n (x ∷ ys)
          → of_size size n (cond b (x ∷ y ∷ ys) (y ∷ inserted size x ys)) ≡ of_size size n (x ∷ y ∷ ys)
      by true is later = refl
      by false is later =
          let above : size x < size y = grind (arith, nat_tests) in
          ap (λ more. cond (nat_eq (size y) n) (y ∷ more) more) later ∙ swapped (nat_eq (size x) n) (nat_eq (size y) n) refl refl above
        where
          swapped : (a b : Bool) → nat_eq (size x) n ≡ a → nat_eq (size y) n ≡ b → size x < size y
              → cond b (y ∷ cond a (x ∷ of_size size n ys) (of_size size n ys)) (cond a (x ∷ of_size size n ys) (of_size size n ys))
              ≡ cond a (x ∷ cond b (y ∷ of_size size n ys) (of_size size n ys)) (cond b (y ∷ of_size size n ys) (of_size size n ys))
          swapped true true at_x at_y above = absurd (both (size x) (size y) n at_x at_y above)
            where
              both : (i j l : ℕ) → nat_eq i l ≡ true → nat_eq j l ≡ true → i < j → ⊥
              both i j l a b h = grind (arith, nat_tests)
          swapped true false at_x at_y above = refl
          swapped false true at_x at_y above = refl
          swapped false false at_x at_y above = refl

  pub same : (n : ℕ) (xs : List X) → of_size size n (greatest_first size xs) ≡ of_size size n xs
  same n [] = refl
  same n (x ∷ xs) = inserted_same n x (greatest_first size xs) ∙ ap (λ more. cond (nat_eq (size x) n) (x ∷ more) more) (same n xs)
