-- The least and the greatest of a list of numbers are among them, and none lies beyond.
use Rattle.model_sets.proofs.Common.{◌≡◌, ℕ, zero, suc, ◌<◌, ◌≤◌, min, max, leb, fold, List, [], ◌∷◌, length, refl, sym, ◌∙◌, ◌⊎◌, inl, inr, arith, All, Contains, cases_Bool, leb-true, leb-false, least, greatest, IsLeast, IsGreatest}

min_is : (a b : ℕ) → (min a b ≡ a) ⊎ (min a b ≡ b)
min_is a b = elim (cases_Bool (leb a b)) [
  | inl e ↦ let le : a ≤ b = leb-true a b e in inl (omega arith)
  | inr e ↦ let lt : b < a = leb-false a b e in inr (omega arith)
]

max_is : (a b : ℕ) → (max a b ≡ a) ⊎ (max a b ≡ b)
max_is a b = elim (cases_Bool (leb a b)) [
  | inl e ↦ let le : a ≤ b = leb-true a b e in inr (omega arith)
  | inr e ↦ let lt : b < a = leb-false a b e in inl (omega arith)
]

later : (n m : ℕ) (ns : List ℕ) → Contains ns m → Contains (n ∷ ns) m
later n m ns found = let below = found.1 in (suc found.0, omega arith, found.2)

here : (n m : ℕ) (ns : List ℕ) → m ≡ n → Contains (n ∷ ns) m
here n m ns e = (0, omega arith, sym e)

all_with : (P : ℕ → Type 0) (n : ℕ) (ns : List ℕ) → P n → All P ns → All P (n ∷ ns)
all_with P n ns first others zero d below = first
all_with P n ns first others (suc j) d below = others j d (omega arith)

-- ---- the least
fold_min_low : (a : ℕ) (ns : List ℕ) → fold min a ns ≤ a
fold_min_low a [] = omega arith
fold_min_low a (n ∷ ns) = let h : fold min (min a n) ns ≤ min a n = fold_min_low (min a n) ns in omega (arith, h)

fold_min_all : (a : ℕ) (ns : List ℕ) → All (λ m. fold min a ns ≤ m) ns
fold_min_all a [] i d below = absurd (omega arith)
fold_min_all a (n ∷ ns) zero d below = let h : fold min (min a n) ns ≤ min a n = fold_min_low (min a n) ns in omega (arith, h)
fold_min_all a (n ∷ ns) (suc j) d below = fold_min_all (min a n) ns j d (omega arith)

fold_min_reached : (a : ℕ) (ns : List ℕ) → (fold min a ns ≡ a) ⊎ Contains ns (fold min a ns)
fold_min_reached a [] = inl refl
fold_min_reached a (n ∷ ns) = elim (fold_min_reached (min a n) ns) [
  | inl e ↦ elim (min_is a n) [ inl first ↦ inl (e ∙ first) | inr second ↦ inr (here n (fold min (min a n) ns) ns (e ∙ second)) ]
  | inr found ↦ inr (later n (fold min (min a n) ns) ns found)
]

pub least_is : (ns : List ℕ) → 0 < length ns → IsLeast ns (least ns)
least_is [] some = absurd (omega arith)
least_is (n ∷ ns) some = (
  elim (fold_min_reached n ns) [ inl e ↦ here n (fold min n ns) ns e | inr found ↦ later n (fold min n ns) ns found ],
  all_with (λ m. fold min n ns ≤ m) n ns (fold_min_low n ns) (fold_min_all n ns),
)

-- ---- the greatest
fold_max_high : (a : ℕ) (ns : List ℕ) → a ≤ fold max a ns
fold_max_high a [] = omega arith
fold_max_high a (n ∷ ns) = let h : max a n ≤ fold max (max a n) ns = fold_max_high (max a n) ns in omega (arith, h)

fold_max_all : (a : ℕ) (ns : List ℕ) → All (λ m. m ≤ fold max a ns) ns
fold_max_all a [] i d below = absurd (omega arith)
fold_max_all a (n ∷ ns) zero d below = let h : max a n ≤ fold max (max a n) ns = fold_max_high (max a n) ns in omega (arith, h)
fold_max_all a (n ∷ ns) (suc j) d below = fold_max_all (max a n) ns j d (omega arith)

fold_max_reached : (a : ℕ) (ns : List ℕ) → (fold max a ns ≡ a) ⊎ Contains ns (fold max a ns)
fold_max_reached a [] = inl refl
fold_max_reached a (n ∷ ns) = elim (fold_max_reached (max a n) ns) [
  | inl e ↦ elim (max_is a n) [ inl first ↦ inl (e ∙ first) | inr second ↦ inr (here n (fold max (max a n) ns) ns (e ∙ second)) ]
  | inr found ↦ inr (later n (fold max (max a n) ns) ns found)
]

pub greatest_is : (ns : List ℕ) → 0 < length ns → IsGreatest ns (greatest ns)
greatest_is [] some = absurd (omega arith)
greatest_is (n ∷ ns) some = (
  elim (fold_max_reached 0 (n ∷ ns)) [
    | inl e ↦ let high : n ≤ fold max 0 (n ∷ ns) = fold_max_all 0 (n ∷ ns) 0 0 (omega arith) in here n (fold max 0 (n ∷ ns)) ns (omega (arith, e, high))
    | inr found ↦ found
  ],
  fold_max_all 0 (n ∷ ns),
)
