-- A sum over positions, one after another.
use Rattle.data_warnings.proofs.Common.{◌≡◌, ℕ, suc, ◌+◌, ◌-◌, ◌<◌, ℤ, ◌+ℤ◌, sym, ap, ◌∙◌, arith, range_with_len, +ℤ_assoc, sum_over}

-- the sum from position i to the end
abbrev pub sum_from : (ℕ → ℤ) → ℕ → ℕ → ℤ
sum_from f n i = sum_over (range_with_len i (n - i)) f

sum-step : (f : ℕ → ℤ) (n i : ℕ) → i < n → sum_from f n i ≡ f i +ℤ sum_from f n (i + 1)
sum-step f n i h = let e : n - i ≡ suc (n - (i + 1)) = omega arith in ap (λ k. sum_over (range_with_len i k) f) e

pub sum-next : (f : ℕ → ℤ) (n i : ℕ) (sum all : ℤ) → i < n → sum +ℤ sum_from f n i ≡ all → (sum +ℤ f i) +ℤ sum_from f n (i + 1) ≡ all
sum-next f n i sum all h so_far = +ℤ_assoc sum (f i) (sum_from f n (i + 1)) ∙ sym (ap (λ z. sum +ℤ z) (sum-step f n i h)) ∙ so_far
