-- Lists of names, and lists of the vectors that hold them.
use Rattle.model_sets.proofs.Common.{◌≡◌, Bool, false, ◌||◌, List, [], ◌∷◌, ◌++◌, map, length, position, suc, if◌then◌else◌, refl, sym, ap, ◌∙◌, arith, list_any, IsDistinct, AllByRecursion, position_or_len, map-append}
use Rattle.indexmap.specs.IndexSet.{insert_key}

module _ {X Y : Type 0} (f : X → Y) (p : Y → Bool) where
  -- a test of the images
  pub list_any-map : (xs : List X) → list_any p (map f xs) ≡ list_any (λ x. p (f x)) xs
  list_any-map [] = refl
  list_any-map (x ∷ xs) = ap (λ b. p (f x) || b) (list_any-map xs)

  position_or_len-map : (xs : List X) → position_or_len p (map f xs) ≡ position_or_len (λ x. p (f x)) xs
  position_or_len-map [] = refl
  position_or_len-map (x ∷ xs) = grind (arith, position_or_len-map xs)

  length-of_map : (xs : List X) → length (map f xs) ≡ length xs
  length-of_map [] = refl
  length-of_map (x ∷ xs) = ap (λ n. suc n) (length-of_map xs)

  pub position-map : (xs : List X) → position p (map f xs) ≡ position (λ x. p (f x)) xs
  position-map xs = rw (position_or_len-map xs, length-of_map xs) refl

module _ {X Y : Type 0} (f : X → Y) (P : Y → Type 0) where
  AllByRecursion-map : (xs : List X) → AllByRecursion (λ x. P (f x)) xs → AllByRecursion P (map f xs)
  AllByRecursion-map [] all = tt
  AllByRecursion-map (x ∷ xs) all = (all.0, AllByRecursion-map xs all.1)

-- images that differ by the test
pub IsDistinct-map : {X Y : Type 0} (f : X → Y) (same : Y → Y → Bool) (xs : List X) → IsDistinct (λ x y. same (f x) (f y)) xs → IsDistinct same (map f xs)
unfolding IsDistinct
IsDistinct-map f same [] distinct = tt
IsDistinct-map f same (x ∷ xs) distinct = (AllByRecursion-map f (λ y. same (f x) y ≡ false) xs distinct.0, IsDistinct-map f same xs distinct.1)

-- the images once a new element is inserted
pub map-insert_key : {X Y : Type 0} (f : X → Y) (same : Y → Y → Bool) (xs : List X) (x : X) (old : List Y) (y : Y) → map f xs ≡ old → f x ≡ y → list_any (same y) old ≡ false → map f (insert_key (λ a b. same (f a) (f b)) xs x) ≡ old ++ y ∷ []
map-insert_key f same xs x old y is at new =
    let absent : list_any (λ b. same (f x) (f b)) xs ≡ false = sym (list_any-map f (same (f x)) xs) ∙ ap (list_any (same (f x))) is ∙ ap (λ z. list_any (same z) old) at ∙ new in
    ap (map f) (ap (λ t. if t then xs else xs ++ x ∷ []) absent) ∙ map-append f xs (x ∷ []) ∙ ap (λ ys. ys ++ f x ∷ []) is ∙ ap (λ z. old ++ z ∷ []) at
