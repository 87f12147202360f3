-- The discounted values: each is a rounded quotient of the one before, so they fall, and each year's rounding loses less than 1.
use Rattle.discount_factors.proofs.Common.{◌≡◌, ℕ, zero, suc, ◌+◌, ◌-◌, ◌*◌, ◌/◌, ◌^◌, ◌<◌, ◌≤◌, refl, subst, inl, inr, arith, pow-suc, pow-zero, div-mul-le_self, lt-div-mul-add, mul-le-mul_right, mul-le-mul_left, le_of_mul-le-mul_right, cases_lt, discounted}

pub discounted-first : (rate : ℕ) → discounted rate 0 ≡ 10 ^ 18
unfolding discounted
discounted-first rate = refl

-- ---- one year more
pub discounted-more : (rate n : ℕ) → discounted rate (suc n) ≡ discounted rate n * 10 ^ 9 / (10 ^ 9 + rate)
unfolding discounted
discounted-more rate n = refl

pub year_below : (rate n : ℕ) → discounted rate (suc n) * (10 ^ 9 + rate) ≤ discounted rate n * 10 ^ 9
unfolding discounted
year_below rate n = div-mul-le_self (discounted rate n * 10 ^ 9) (10 ^ 9 + rate)

pub year_above : (rate n : ℕ) → discounted rate n * 10 ^ 9 < discounted rate (suc n) * (10 ^ 9 + rate) + (10 ^ 9 + rate)
unfolding discounted
year_above rate n = let some : 0 < 10 ^ 9 + rate = omega arith in lt-div-mul-add {a = discounted rate n * 10 ^ 9} some

-- ---- they fall
falls_by : (rate k m : ℕ) → m * (10 ^ 9 + rate) ≤ k * 10 ^ 9 → m ≤ k
falls_by rate k m h = let most : m * 10 ^ 9 ≤ k * 10 ^ 9 = omega arith in le_of_mul-le-mul_right {m = m} {n = k} {k = 10 ^ 9} most (omega arith)

pub discounted-falls : (rate n : ℕ) → discounted rate (suc n) ≤ discounted rate n
discounted-falls rate n = falls_by rate (discounted rate n) (discounted rate (suc n)) (year_below rate n)

pub discounted-le : (rate n : ℕ) → discounted rate n ≤ 10 ^ 18
discounted-le rate zero = rw discounted-first (omega arith)
discounted-le rate (suc n) = let before = discounted-le rate n in let falls = discounted-falls rate n in omega arith

falls_further : (rate m k : ℕ) → discounted rate (k + m) ≤ discounted rate m
falls_further rate m zero = let same : 0 + m ≡ m = omega arith in rw same (omega arith)
falls_further rate m (suc k) =
    let before = falls_further rate m k in
    let falls = discounted-falls rate (k + m) in
    let next : suc k + m ≡ suc (k + m) = omega arith in
    rw next (omega arith)

pub discounted-monotone : (rate m n : ℕ) → m ≤ n → discounted rate n ≤ discounted rate m
discounted-monotone rate m n h =
    let same : (n - m) + m ≡ n = omega arith in
    let P : ℕ → Type 0 = λ k. discounted rate k ≤ discounted rate m in
    subst P same (falls_further rate m (n - m))

-- ---- against the powers
powers_below : (k m a b p q : ℕ) → m * a ≤ k * b → k * p ≤ 10 ^ 18 * q → m * (p * a) ≤ 10 ^ 18 * (q * b)
powers_below k m a b p q year before =
    let one : m * a * p ≤ k * b * p = mul-le-mul_right p year in
    let two : k * p * b ≤ 10 ^ 18 * q * b = mul-le-mul_right b before in
    omega arith

powers_above : (k m n a b p q : ℕ) → b ≤ a → k * b < m * a + a → 10 ^ 18 * q ≤ (k + n) * p → 10 ^ 18 * (q * b) ≤ (m + suc n) * (p * a)
powers_above k m n a b p q le year before =
    let one : k * b * p ≤ (m * a + a) * p = mul-le-mul_right p (omega arith) in
    let two : 10 ^ 18 * q * b ≤ (k + n) * p * b = mul-le-mul_right b before in
    let three : n * p * b ≤ n * p * a = mul-le-mul_left (n * p) le in
    omega arith

-- at most 10^18 / (1 + d)^n
pub discounted-below : (rate n : ℕ) → discounted rate n * (10 ^ 9 + rate) ^ n ≤ 10 ^ 18 * (10 ^ 9) ^ n
discounted-below rate zero = rw discounted-first (rw pow-zero (omega arith))
discounted-below rate (suc n) =
    let step = powers_below (discounted rate n) (discounted rate (suc n)) (10 ^ 9 + rate) (10 ^ 9) ((10 ^ 9 + rate) ^ n) ((10 ^ 9) ^ n) (year_below rate n) (discounted-below rate n) in
    rw (pow-suc (10 ^ 9 + rate) n, pow-suc (10 ^ 9) n) step

-- and at most n below it
pub discounted-above : (rate n : ℕ) → 10 ^ 18 * (10 ^ 9) ^ n ≤ (discounted rate n + n) * (10 ^ 9 + rate) ^ n
discounted-above rate zero = rw discounted-first (rw pow-zero (omega arith))
discounted-above rate (suc n) =
    let step = powers_above (discounted rate n) (discounted rate (suc n)) n (10 ^ 9 + rate) (10 ^ 9) ((10 ^ 9 + rate) ^ n) ((10 ^ 9) ^ n) (omega arith) (year_above rate n) (discounted-above rate n) in
    rw (pow-suc (10 ^ 9 + rate) n, pow-suc (10 ^ 9) n) step

-- ---- every year from the first on is worth less than the whole, where the rate is above 0
discounted-below_first : (rate n : ℕ) → 0 < rate → discounted rate (suc n) < 10 ^ 18
discounted-below_first rate zero some =
    elim (cases_lt (discounted rate 1) (10 ^ 18)) [
      | inl less ↦ less
      | inr whole ↦
          let most : discounted rate 1 * (10 ^ 9 + rate) ≤ 10 ^ 18 * 10 ^ 9 = rw (discounted-first rate) at (year_below rate 0) in
          let least : 10 ^ 18 * (10 ^ 9 + rate) ≤ discounted rate 1 * (10 ^ 9 + rate) = mul-le-mul_right (10 ^ 9 + rate) whole in
          absurd (omega arith)
    ]
discounted-below_first rate (suc n) some = let before = discounted-below_first rate n some in let falls = discounted-falls rate (suc n) in omega arith

pub discounted-below_whole : (rate n : ℕ) → 0 < rate → 0 < n → discounted rate n < 10 ^ 18
discounted-below_whole rate zero some later = absurd (omega arith)
discounted-below_whole rate (suc n) some later = discounted-below_first rate n some

-- ---- rate 0
pub discounted-level : (n : ℕ) → discounted 0 n ≡ 10 ^ 18
discounted-level zero = discounted-first 0
discounted-level (suc n) = rw (discounted-more 0 n, discounted-level n) refl
