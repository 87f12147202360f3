-- The half-year root: halving finds the greatest number that is within the bound, and there is one such number alone.
use Rattle.discount_factors.proofs.Common.{◌≡◌, ℕ, zero, suc, ◌+◌, ◌*◌, ◌/◌, ◌^◌, ◌<◌, ◌≤◌, inl, inr, true, leb, subst, arith, pow-suc, mul-le-mul, mul-le-mul_right, div-mul-le_self, lt-div-mul-add, cases_lt, cond_both, leb-true, leb-false, IsWithinRoot, IsHalfYearRoot, root_from, half_year_root}

-- h is within the bound, and h + gap is above it
record IsBetween (rate h gap : ℕ) : Type 0 where
  within : IsWithinRoot rate h
  above : 10 ^ 24 * 10 ^ 9 < (h + gap) * (h + gap) * (10 ^ 9 + rate)

-- ---- halving
halves : (rate bit h : ℕ) → IsBetween rate h (2 ^ suc bit) → leb ((h + 2 ^ bit) * (h + 2 ^ bit) * (10 ^ 9 + rate)) (10 ^ 24 * 10 ^ 9) ≡ true → IsBetween rate (h + 2 ^ bit) (2 ^ bit)
halves rate bit h is tested =
    let twice : 2 ^ suc bit ≡ 2 ^ bit * 2 = pow-suc 2 bit in
    let same : h + 2 ^ suc bit ≡ h + 2 ^ bit + 2 ^ bit = omega arith in
    let P : ℕ → Type 0 = λ k. 10 ^ 24 * 10 ^ 9 < k * k * (10 ^ 9 + rate) in
    record { within = leb-true _ _ tested; above = subst P same is.above }

root_between : (rate bits h : ℕ) → IsBetween rate h (2 ^ bits) → IsBetween rate (root_from rate bits h) 1
unfolding root_from
root_between rate zero h is = is
root_between rate (suc bit) h is =
    root_between rate bit _
    (cond_both (leb ((h + 2 ^ bit) * (h + 2 ^ bit) * (10 ^ 9 + rate)) (10 ^ 24 * 10 ^ 9)) (h + 2 ^ bit) h (λ k. IsBetween rate k (2 ^ bit)) (halves rate bit h is) (λ tested. record { within = is.within; above = leb-false _ _ tested }))

-- ---- the greatest
greatest_between : (rate h k : ℕ) → IsBetween rate h 1 → IsWithinRoot rate k → k ≤ h
greatest_between rate h k is within =
    elim (cases_lt h k) [
      | inl more ↦
          let square : (h + 1) * (h + 1) ≤ k * k = mul-le-mul {n₁ = h + 1} {m₁ = h + 1} {n₂ = k} {m₂ = k} (omega arith) (omega arith) in
          let above : (h + 1) * (h + 1) * (10 ^ 9 + rate) ≤ k * k * (10 ^ 9 + rate) = mul-le-mul_right (10 ^ 9 + rate) square in
          let over = is.above in
          absurd (omega arith)
      | inr less ↦ less
    ]

root_is : (rate h : ℕ) → IsBetween rate h 1 → IsHalfYearRoot rate h
root_is rate h is = record { within = is.within; greatest = λ k within. greatest_between rate h k is within }

-- no root has more than 40 bits
first : (rate : ℕ) → IsBetween rate 0 (2 ^ 40)
first rate = record { within = omega arith; above = omega arith }

pub half_year_root_is : (rate : ℕ) → IsHalfYearRoot rate (half_year_root rate)
unfolding half_year_root
half_year_root_is rate = root_is rate (root_from rate 40 0) (root_between rate 40 0 (first rate))

-- ---- there is one
le_le : (m n : ℕ) → m ≤ n → n ≤ m → m ≡ n
le_le m n p q = omega arith

pub root_unique : (rate h k : ℕ) → IsHalfYearRoot rate h → IsHalfYearRoot rate k → h ≡ k
root_unique rate h k p q = le_le h k (q.greatest h p.within) (p.greatest k q.within)

-- ---- its bounds
pub half_year_root-within : (rate : ℕ) → half_year_root rate * half_year_root rate * (10 ^ 9 + rate) ≤ 10 ^ 24 * 10 ^ 9
half_year_root-within rate = (half_year_root_is rate).within

pub half_year_root-above : (rate : ℕ) → 10 ^ 24 * 10 ^ 9 < (half_year_root rate + 1) * (half_year_root rate + 1) * (10 ^ 9 + rate)
half_year_root-above rate =
    elim (cases_lt (10 ^ 24 * 10 ^ 9) ((half_year_root rate + 1) * (half_year_root rate + 1) * (10 ^ 9 + rate))) [
      | inl above ↦ above
      | inr within ↦
          let more : half_year_root rate + 1 ≤ half_year_root rate = (half_year_root_is rate).greatest (half_year_root rate + 1) within in
          absurd (omega arith)
    ]

-- a square at most 10^24 is that of a number at most 10^12
root_small : (rate h : ℕ) → IsWithinRoot rate h → h ≤ 10 ^ 12
root_small rate h within =
    elim (cases_lt (10 ^ 12) h) [
      | inl more ↦
          let square : (10 ^ 12 + 1) * (10 ^ 12 + 1) ≤ h * h = mul-le-mul {n₁ = 10 ^ 12 + 1} {m₁ = 10 ^ 12 + 1} {n₂ = h} {m₂ = h} (omega arith) (omega arith) in
          absurd (omega arith)
      | inr less ↦ less
    ]

pub half_year_root-le : (rate : ℕ) → half_year_root rate ≤ 10 ^ 12
half_year_root-le rate = root_small rate (half_year_root rate) (half_year_root-within rate)

-- ---- the whole square root of the quotient is the half-year root
pub root_of_quotient : (rate q r : ℕ) → q ≡ 10 ^ 24 * 10 ^ 9 / (10 ^ 9 + rate) → r * r ≤ q → q < (r + 1) * (r + 1) → r ≡ half_year_root rate
root_of_quotient rate q r is low high =
    let some : 0 < 10 ^ 9 + rate = omega arith in
    let most : q * (10 ^ 9 + rate) ≤ 10 ^ 24 * 10 ^ 9 = rw is (div-mul-le_self (10 ^ 24 * 10 ^ 9) (10 ^ 9 + rate)) in
    let least : 10 ^ 24 * 10 ^ 9 < q * (10 ^ 9 + rate) + (10 ^ 9 + rate) = rw is (lt-div-mul-add {a = 10 ^ 24 * 10 ^ 9} some) in
    let under : r * r * (10 ^ 9 + rate) ≤ q * (10 ^ 9 + rate) = mul-le-mul_right (10 ^ 9 + rate) low in
    let over : (q + 1) * (10 ^ 9 + rate) ≤ (r + 1) * (r + 1) * (10 ^ 9 + rate) = mul-le-mul_right (10 ^ 9 + rate) (omega arith) in
    root_unique rate r (half_year_root rate) (root_is rate r (record { within = omega arith; above = omega arith })) (half_year_root_is rate)
