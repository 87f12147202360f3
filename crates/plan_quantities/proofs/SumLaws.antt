-- Sums over positions: of the same values, with a factor, in either order, and without what is 0.
use Rattle.plan_quantities.proofs.Common.{◌≡◌, ℕ, ℤ, pos, ◌+ℤ◌, ◌*ℤ◌, Bool, true, false, List, [], ◌∷◌, filter, refl, sym, ap, ap₂, ◌∙◌, arith, if◌then◌else◌, AllByRecursion, ints, +ℤ-*ℤ, zero-*ℤ, zero-+ℤ, sum_over, sum_over-zero}

-- the values are the same at each of these positions
pub sum-same : (P : ℕ → Type 0) (is : List ℕ) (f g : ℕ → ℤ) → AllByRecursion P is → ((i : ℕ) → P i → f i ≡ g i) → sum_over is f ≡ sum_over is g
sum-same P [] f g all same = refl
sum-same P (i ∷ is) f g all same = ap₂ (λ y z. y +ℤ z) (same i all.0) (sum-same P is f g all.1 same)

-- a factor on the right
pub sum-times : (is : List ℕ) (f : ℕ → ℤ) (k : ℤ) → sum_over is f *ℤ k ≡ sum_over is (λ i. f i *ℤ k)
sum-times [] f k = zero-*ℤ k
sum-times (i ∷ is) f k = +ℤ-*ℤ (f i) (sum_over is f) k ∙ ap (λ z. (f i *ℤ k) +ℤ z) (sum-times is f k)

added_apart : (a b c d : ℤ) → (a +ℤ b) +ℤ (c +ℤ d) ≡ (a +ℤ c) +ℤ (b +ℤ d)
added_apart a b c d = omega (arith, ints)

sum-plus : (is : List ℕ) (f g : ℕ → ℤ) → sum_over is (λ i. f i +ℤ g i) ≡ sum_over is f +ℤ sum_over is g
sum-plus [] f g = refl
sum-plus (i ∷ is) f g = ap (λ n. (f i +ℤ g i) +ℤ n) (sum-plus is f g) ∙ added_apart (f i) (g i) (sum_over is f) (sum_over is g)

-- the sums over two sets in the other order
pub sum-exchanged : (is js : List ℕ) (f : ℕ → ℕ → ℤ) → sum_over is (λ i. sum_over js (λ j. f i j)) ≡ sum_over js (λ j. sum_over is (λ i. f i j))
sum-exchanged [] js f = sym (sum_over-zero js (λ j. pos 0) (λ j. refl))
sum-exchanged (i ∷ is) js f =
    ap (λ n. sum_over js (λ j. f i j) +ℤ n) (sum-exchanged is js f) ∙ sym (sum-plus js (λ j. f i j) (λ j. sum_over is (λ k. f k j)))

-- the positions that pass a test, where the value of the others is 0
pub sum-filtered : (p : ℕ → Bool) (is : List ℕ) (f : ℕ → ℤ) → ((i : ℕ) → p i ≡ false → f i ≡ pos 0) → sum_over (filter p is) f ≡ sum_over is f
sum-filtered p [] f none = refl
sum-filtered p (i ∷ is) f none = by_test (p i) refl (sum-filtered p is f none)
  where
    by_test : (b : Bool) → p i ≡ b → sum_over (filter p is) f ≡ sum_over is f → sum_over (if b then i ∷ filter p is else filter p is) f ≡ f i +ℤ sum_over is f
    by_test true passes rest = ap (λ z. f i +ℤ z) rest
    by_test false passes rest = rest ∙ sym (ap (λ z. z +ℤ sum_over is f) (none i passes) ∙ zero-+ℤ (sum_over is f))

-- what passes a test is still what it was
pub all-filtered : (P : ℕ → Type 0) (p : ℕ → Bool) (is : List ℕ) → AllByRecursion P is → AllByRecursion (λ i. P i × (p i ≡ true)) (filter p is)
all-filtered P p [] all = tt
all-filtered P p (i ∷ is) all = by_test (p i) refl (all-filtered P p is all.1)
  where
    by_test : (b : Bool) → p i ≡ b → AllByRecursion (λ i. P i × (p i ≡ true)) (filter p is) → AllByRecursion (λ i. P i × (p i ≡ true)) (if b then i ∷ filter p is else filter p is)
    by_test true passes rest = ((all.0, passes), rest)
    by_test false passes rest = rest
