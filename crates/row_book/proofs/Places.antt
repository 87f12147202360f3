-- The elements of a list before a place, at it, and after it.
use Rattle.row_book.proofs.Common.{◌≡◌, ℕ, zero, suc, ◌<◌, ◌≤◌, List, [], ◌∷◌, ◌++◌, length, get_or, take, drop, refl, ap, arith, AllByRecursion}

-- a list around one of its elements
pub list-middle : {A : Type 0} (xs : List A) (i : ℕ) (d : A) → i < length xs → xs ≡ take i xs ++ get_or xs i d ∷ drop (suc i) xs
list-middle [] i d inside = absurd (omega (arith, inside))
list-middle (x ∷ xs) zero d inside = refl
list-middle (x ∷ xs) (suc i) d inside = ap (λ rest. x ∷ rest) (list-middle xs i d (omega (arith, inside)))

-- all before its end
pub take-past : {A : Type 0} (xs : List A) (i : ℕ) → length xs ≤ i → take i xs ≡ xs
take-past [] zero past = refl
take-past [] (suc i) past = refl
take-past (x ∷ xs) zero past = absurd (omega (arith, past))
take-past (x ∷ xs) (suc i) past = ap (λ rest. x ∷ rest) (take-past xs i (omega (arith, past)))

-- a fact of all elements, at a place
pub all-at_place : {A : Type 0} (P : A → Type 0) (xs : List A) (i : ℕ) (d : A) → AllByRecursion P xs → i < length xs → P (get_or xs i d)
all-at_place P [] i d of_all inside = absurd (omega (arith, inside))
all-at_place P (x ∷ xs) zero d of_all inside = of_all.0
all-at_place P (x ∷ xs) (suc i) d of_all inside = all-at_place P xs i d of_all.1 (omega (arith, inside))
