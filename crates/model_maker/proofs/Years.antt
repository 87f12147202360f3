-- Years one after another.
use Rattle.std.proofs.Common.{◌≡◌, ◌∙◌, ◌<◌, ◌+◌, ◌-◌, ◌++◌, ℕ, suc, List, arith, ap, sym, append_assoc}
use Rattle.std.specs.List.{flat_map, range_with_len}

-- the first of the years that are left, and those after it
pub next_year : (f : ℕ → List ℕ) (k n : ℕ) → k < n → flat_map f (range_with_len k (n - k)) ≡ f k ++ flat_map f (range_with_len (k + 1) (n - (k + 1)))
next_year f k n more =
    let left : n - k ≡ suc (n - (k + 1)) = omega arith in
    ap (λ count. flat_map f (range_with_len k count)) left

-- with its lines, those so far and those that are left are all
pub after_year : (f : ℕ → List ℕ) (k n : ℕ) (before after all : List ℕ) → k < n → after ≡ before ++ f k
    → before ++ flat_map f (range_with_len k (n - k)) ≡ all → after ++ flat_map f (range_with_len (k + 1) (n - (k + 1))) ≡ all
after_year f k n before after all more added whole =
    ap (λ lines. lines ++ flat_map f (range_with_len (k + 1) (n - (k + 1)))) added
    ∙ append_assoc before (f k) (flat_map f (range_with_len (k + 1) (n - (k + 1))))
    ∙ ap (λ lines. before ++ lines) (sym (next_year f k n more)) ∙ whole
