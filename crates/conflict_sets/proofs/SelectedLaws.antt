-- What a list of tests selects.
use Rattle.conflict_sets.proofs.Common.{◌≡◌, ◌≤◌, suc, Bool, true, false, List, [], ◌∷◌, length, map, filter, refl, ap, arith, by_test, selected}

-- a filter selects by its tests
pub map-filter : {A B : Type 0} (p : A → Bool) (f : A → B) (xs : List A) → map f (filter p xs) ≡ selected (map p xs) (map f xs)
map-filter p f [] = refl
map-filter {A} {B} p f (x ∷ xs) = by_test (p x) (λ is. rw is (ap {B = List B} (λ ys. f x ∷ ys) (map-filter p f xs))) (λ is. rw is (map-filter p f xs))

pub map-selected : {A B : Type 0} (f : A → B) (ts : List Bool) (xs : List A) → map f (selected ts xs) ≡ selected ts (map f xs)
map-selected f [] xs = refl
map-selected f (t ∷ ts) [] = refl
map-selected {A} {B} f (true ∷ ts) (x ∷ xs) = ap {B = List B} (λ ys. f x ∷ ys) (map-selected f ts xs)
map-selected f (false ∷ ts) (x ∷ xs) = map-selected f ts xs

-- no more are selected than there are
pub length-selected : {A : Type 0} (ts : List Bool) (xs : List A) → length (selected ts xs) ≤ length xs
length-selected [] xs = omega arith
length-selected (t ∷ ts) [] = omega arith
length-selected (true ∷ ts) (x ∷ xs) = let rest = length-selected ts xs in omega arith
length-selected (false ∷ ts) (x ∷ xs) = let rest = length-selected ts xs in omega arith

-- as many of one list as of another of the same length
pub length-alike : {A B : Type 0} (ts : List Bool) (xs : List A) (ys : List B) → length xs ≡ length ys → length (selected ts xs) ≡ length (selected ts ys)
length-alike [] xs ys e = refl
length-alike (t ∷ ts) [] [] e = refl
length-alike (t ∷ ts) [] (y ∷ ys) e = absurd (omega arith)
length-alike (t ∷ ts) (x ∷ xs) [] e = absurd (omega arith)
length-alike (true ∷ ts) (x ∷ xs) (y ∷ ys) e = ap suc (length-alike ts xs ys (omega arith))
length-alike (false ∷ ts) (x ∷ xs) (y ∷ ys) e = length-alike ts xs ys (omega arith)

pub selected-none : {A : Type 0} (ts : List Bool) → selected {A = A} ts [] ≡ []
selected-none [] = refl
selected-none (t ∷ ts) = refl
