-- Terms that are added for one position after another, several for each.
use Rattle.named_equations.proofs.Common.{◌≡◌, ℕ, suc, ◌+◌, ◌-◌, ◌<◌, ◌≤◌, List, [], ◌∷◌, ◌++◌, refl, ap, ◌∙◌, arith, range_with_len, Var, Amount, for_each}
use Rattle.row_core.specs.Calculated.{Side, number_of, with_number, with_amounts}

-- terms, and then others
with_amounts-append : (terms more : List (Var × Amount)) (side : Side) → with_amounts (terms ++ more) side ≡ with_amounts more (with_amounts terms side)
with_amounts-append [] more side = refl
with_amounts-append (term ∷ terms) more side = with_amounts-append terms more (with_number term.0 (number_of term.1) side)

-- a left side with the terms for the positions from i to the end
abbrev pub with_rest_of : (ℕ → List (Var × Amount)) → ℕ → ℕ → Side → Side
with_rest_of f n i side = with_amounts (for_each (range_with_len i (n - i)) f) side

pub nested-begin : (f : ℕ → List (Var × Amount)) (n : ℕ) (side : Side) → with_amounts (for_each (range_with_len 0 n) f) side ≡ with_rest_of f n 0 side
nested-begin f n side = let e : n ≡ n - 0 = omega arith in ap (λ k. with_amounts (for_each (range_with_len 0 k) f) side) e

pub nested-step : (f : ℕ → List (Var × Amount)) (n i : ℕ) (side : Side) → i < n → with_rest_of f n i side ≡ with_rest_of f n (i + 1) (with_amounts (f i) side)
nested-step f n i side h =
    let e : n - i ≡ suc (n - (i + 1)) = omega arith in
    ap (λ k. with_amounts (for_each (range_with_len i k) f) side) e
    ∙ with_amounts-append (f i) (for_each (range_with_len (i + 1) (n - (i + 1))) f) side

pub nested-end : (f : ℕ → List (Var × Amount)) (n i : ℕ) (side : Side) → n ≤ i → with_rest_of f n i side ≡ side
nested-end f n i side h = let e : n - i ≡ 0 = omega arith in ap (λ k. with_amounts (for_each (range_with_len i k) f) side) e
