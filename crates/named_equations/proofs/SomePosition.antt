-- Something is true of some position where it is true of this one, or of a later one.
use Rattle.named_equations.proofs.Common.{◌≡◌, ℕ, suc, ◌+◌, ◌-◌, ◌<◌, ◌≤◌, Bool, true, false, ◌||◌, ap, ◌∙◌, arith, list_any, range_with_len}

-- something is true of some position from i to the end
abbrev pub any_from : (ℕ → Bool) → ℕ → ℕ → Bool
any_from P n i = list_any P (range_with_len i (n - i))

pub any-begin : (P : ℕ → Bool) (n : ℕ) → list_any P (range_with_len 0 n) ≡ any_from P n 0
any-begin P n = let e : n ≡ n - 0 = omega arith in ap (λ k. list_any P (range_with_len 0 k)) e

any-step : (P : ℕ → Bool) (n i : ℕ) → i < n → any_from P n i ≡ (P i || any_from P n (i + 1))
any-step P n i h = let e : n - i ≡ suc (n - (i + 1)) = omega arith in ap (λ k. list_any P (range_with_len i k)) e

pub any-here : (P : ℕ → Bool) (n i : ℕ) → i < n → P i ≡ true → any_from P n i ≡ true
any-here P n i h is = any-step P n i h ∙ ap (λ b. b || any_from P n (i + 1)) is

pub any-later : (P : ℕ → Bool) (n i : ℕ) → i < n → P i ≡ false → any_from P n i ≡ any_from P n (i + 1)
any-later P n i h is = any-step P n i h ∙ ap (λ b. b || any_from P n (i + 1)) is

pub any-end : (P : ℕ → Bool) (n i : ℕ) → n ≤ i → any_from P n i ≡ false
any-end P n i h = let e : n - i ≡ 0 = omega arith in ap (λ k. list_any P (range_with_len i k)) e
