-- A sum over two sets may be taken in either order, also where only some pairs count.
use Rattle.named_equations.proofs.Common.{◌≡◌, ℕ, ℤ, pos, ◌+ℤ◌, Bool, true, false, List, [], ◌∷◌, filter, refl, sym, ap, ◌∙◌, arith, if◌then◌else◌, ints, zero-+ℤ, sum_over}
use Rattle.named_equations.proofs.TermMeaning.{sum_over-same, sum_over-zero}

added_apart : (a b c d : ℤ) → (a +ℤ b) +ℤ (c +ℤ d) ≡ (a +ℤ c) +ℤ (b +ℤ d)
added_apart a b c d = omega (arith, ints)

sum_over-plus : (is : List ℕ) (f g : ℕ → ℤ) → sum_over is (λ i. f i +ℤ g i) ≡ sum_over is f +ℤ sum_over is g
sum_over-plus [] f g = refl
sum_over-plus (i ∷ is) f g = ap (λ n. (f i +ℤ g i) +ℤ n) (sum_over-plus is f g) ∙ added_apart (f i) (g i) (sum_over is f) (sum_over is g)

-- all pairs
exchanged : (is js : List ℕ) (f : ℕ → ℕ → ℤ) → sum_over is (λ i. sum_over js (λ j. f i j)) ≡ sum_over js (λ j. sum_over is (λ i. f i j))
exchanged [] js f = sym (sum_over-zero js (λ j. pos 0) (λ j. refl))
exchanged (i ∷ is) js f =
    ap (λ n. sum_over js (λ j. f i j) +ℤ n) (exchanged is js f) ∙ sym (sum_over-plus js (λ j. f i j) (λ j. sum_over is (λ k. f k j)))

-- the value where it counts, and else 0
abbrev counted : Bool → ℤ → ℤ
counted b n = if b then n else pos 0

one_more : (b : Bool) (i : ℕ) (is : List ℕ) (f : ℕ → ℤ) → sum_over (if b then i ∷ is else is) f ≡ counted b (f i) +ℤ sum_over is f
one_more true i is f = refl
one_more false i is f = sym (zero-+ℤ (sum_over is f))

sum_over-filter : (p : ℕ → Bool) (is : List ℕ) (f : ℕ → ℤ) → sum_over (filter p is) f ≡ sum_over is (λ i. counted (p i) (f i))
sum_over-filter p [] f = refl
sum_over-filter p (i ∷ is) f = one_more (p i) i (filter p is) f ∙ ap (λ n. counted (p i) (f i) +ℤ n) (sum_over-filter p is f)

-- the pairs that count
pub sum_over-exchanged : (is js : List ℕ) (p : ℕ → ℕ → Bool) (f : ℕ → ℕ → ℤ)
    → sum_over is (λ i. sum_over (filter (λ j. p i j) js) (λ j. f i j)) ≡ sum_over js (λ j. sum_over (filter (λ i. p i j) is) (λ i. f i j))
sum_over-exchanged is js p f =
    sum_over-same is (λ i. sum_over (filter (λ j. p i j) js) (λ j. f i j)) (λ i. sum_over js (λ j. counted (p i j) (f i j))) (λ i. sum_over-filter (λ j. p i j) js (λ j. f i j))
    ∙ exchanged is js (λ i j. counted (p i j) (f i j))
    ∙ sum_over-same js (λ j. sum_over is (λ i. counted (p i j) (f i j))) (λ j. sum_over (filter (λ i. p i j) is) (λ i. f i j))
    (λ j. sym (sum_over-filter (λ i. p i j) is (λ i. f i j)))
