-- Lists made part by part over a range of numbers.
use Rattle.row_book.proofs.Common.{◌≡◌, ℕ, zero, suc, ◌+◌, ◌-◌, ◌<◌, ◌≤◌, List, [], ◌∷◌, ◌++◌, ap, sym, ◌∙◌, arith, flat_map, range_with_len}
use Rattle.std.proofs.lemmas.List.{append_assoc}

-- a range that isn't at its end has its first position
pub range-more : (i end : ℕ) → i < end → range_with_len i (end - i) ≡ i ∷ range_with_len (i + 1) (end - (i + 1))
range-more i end inside =
    let more : end - i ≡ suc (end - (i + 1)) = omega arith in
    ap (range_with_len i) more

-- what is left of a list made part by part, one part on
pub parts-more : {X : Type 0} (f : ℕ → List X) (i end : ℕ) (out : List X) → i < end
    → out ++ flat_map f (range_with_len i (end - i)) ≡ (out ++ f i) ++ flat_map f (range_with_len (i + 1) (end - (i + 1)))
parts-more f i end out inside =
    ap (λ is. out ++ flat_map f is) (range-more i end inside)
    ∙ sym (append_assoc out (f i) (flat_map f (range_with_len (i + 1) (end - (i + 1)))))

range-append : (a i k : ℕ) → range_with_len a (i + k) ≡ range_with_len a i ++ range_with_len (a + i) k
range-append a zero k =
    let whole : zero + k ≡ k = omega arith in
    let start : a + zero ≡ a = omega arith in
    ap (range_with_len a) whole ∙ ap (λ (b : ℕ). range_with_len b k) (sym start)
range-append a (suc i) k =
    let whole : suc i + k ≡ suc (i + k) = omega arith in
    let start : (a + 1) + i ≡ a + suc i = omega arith in
    ap (range_with_len a) whole
    ∙ ap (λ (rest : List ℕ). a ∷ rest) (range-append (a + 1) i k ∙ ap (λ (b : ℕ). range_with_len (a + 1) i ++ range_with_len b k) start)

-- a range with one of its numbers in the middle
pub range-middle : (a n i : ℕ) → a ≤ i → i < a + n → range_with_len a n ≡ range_with_len a (i - a) ++ i ∷ range_with_len (i + 1) ((a + n) - (i + 1))
range-middle a n i from to =
    let whole : n ≡ (i - a) + suc ((a + n) - (i + 1)) = omega arith in
    let start : a + (i - a) ≡ i = omega arith in
    ap (range_with_len a) whole
    ∙ range-append a (i - a) (suc ((a + n) - (i + 1)))
    ∙ ap (λ (b : ℕ). range_with_len a (i - a) ++ range_with_len b (suc ((a + n) - (i + 1)))) start

-- a range with one number more at its end
pub range-last : (a i : ℕ) → a ≤ i → range_with_len a ((i + 1) - a) ≡ range_with_len a (i - a) ++ i ∷ []
range-last a i from =
    let whole : (i + 1) - a ≡ (i - a) + 1 = omega arith in
    let start : a + (i - a) ≡ i = omega arith in
    ap (range_with_len a) whole
    ∙ range-append a (i - a) 1
    ∙ ap (λ (b : ℕ). range_with_len a (i - a) ++ range_with_len b 1) start
