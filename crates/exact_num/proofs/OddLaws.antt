-- Factors of 2: the greatest common divisor by odd parts and differences.
use Rattle.exact_num.proofs.Common.{◌≡◌, ℕ, zero, suc, ◌+◌, ◌-◌, ◌*◌, ◌/◌, ◌%◌, ◌^◌, ◌<◌, max, min, sym, refl, ap, ap₂, ◌∙◌, inl, inr, arith, abs_diff, count_trailing_zeros, under, cases_lt, div-div-eq-div-mul, mul_comm, pow-succ', gcd_of}
use Rattle.std.proofs.lemmas.Nat.{pow-add}
use Rattle.exact_num.proofs.GcdLaws.{gcd_of_comm, gcd_of-mod, gcd_of-sub, gcd_of-one, one-gcd_of, gcd_of-mul, mul-coprime, gcd_of-mul_coprime}

-- ---- powers of 2 share nothing with an odd number
two-coprime : (b : ℕ) → b % 2 ≡ 1 → gcd_of 2 b ≡ 1
two-coprime b h = gcd_of_comm 2 b ∙ sym (gcd_of-mod b 2) ∙ ap (gcd_of 2) h ∙ gcd_of-one 2

pow-coprime : (k b : ℕ) → b % 2 ≡ 1 → gcd_of (2 ^ k) b ≡ 1
pow-coprime zero b h = one-gcd_of b
pow-coprime (suc k) b h =
    ap (λ m. gcd_of m b) (pow-succ' 2 k) ∙ mul-coprime 2 (2 ^ k) b (two-coprime b h) (pow-coprime k b h)

-- ---- a number without its factors of 2
IsSplit : ℕ → ℕ → Type 0
IsSplit n t = (n / 2 ^ t * 2 ^ t ≡ n) × (n / 2 ^ t % 2 ≡ 1)

split_step : (n t d : ℕ) → n % 2 ≡ d → 0 < n → (0 < n / 2 → IsSplit (n / 2) t) → IsSplit n (under d t)
unfolding IsSplit
split_step n t zero e p ih =
    let half : 2 * (n / 2) ≡ n = omega arith in
    let below : IsSplit (n / 2) t = ih (omega arith) in
    let power : 2 ^ suc t ≡ 2 * 2 ^ t = pow-succ' 2 t in
    let same : n / 2 ^ suc t ≡ n / 2 / 2 ^ t = ap (λ m. n / m) power ∙ sym (div-div-eq-div-mul n 2 (2 ^ t)) in
    let whole : n / 2 / 2 ^ t * (2 * 2 ^ t) ≡ n = omega (arith, ap (λ m. 2 * m) below.0) in
    (ap₂ ◌*◌ same power ∙ whole, ap (λ m. m % 2) same ∙ below.1)
split_step n t (suc d) e p ih =
    let one : n / 1 ≡ n = omega arith in
    (omega arith, ap (λ m. m % 2) one ∙ omega arith)

trailing-split : (k n : ℕ) → 0 < n → n < 2 ^ k → IsSplit n (count_trailing_zeros k n)
unfolding count_trailing_zeros
trailing-split zero n p q = absurd (omega arith)
trailing-split (suc k) n p q =
    split_step n (count_trailing_zeros k (n / 2)) (n % 2) refl p (λ h. trailing-split k (n / 2) h (omega (arith, pow-succ' 2 k)))

pub trailing_mul : (k n : ℕ) → 0 < n → n < 2 ^ k → n / 2 ^ count_trailing_zeros k n * 2 ^ count_trailing_zeros k n ≡ n
unfolding IsSplit
trailing_mul k n p q = (trailing-split k n p q).0

pub trailing_odd : (k n : ℕ) → 0 < n → n < 2 ^ k → n / 2 ^ count_trailing_zeros k n % 2 ≡ 1
unfolding IsSplit
trailing_odd k n p q = (trailing-split k n p q).1

-- an odd number shares with n what it shares with n's odd part
pub odd_part-shares : (n t b : ℕ) → n / 2 ^ t * 2 ^ t ≡ n → b % 2 ≡ 1 → gcd_of (n / 2 ^ t) b ≡ gcd_of n b
odd_part-shares n t b e h =
    gcd_of_comm (n / 2 ^ t) b ∙ sym (gcd_of-mul_coprime b (n / 2 ^ t) (2 ^ t) (gcd_of_comm b (2 ^ t) ∙ pow-coprime t b h)) ∙ gcd_of_comm b (n / 2 ^ t * 2 ^ t) ∙ ap (λ m. gcd_of m b) e

-- ---- one step: the smaller number and the odd part of the difference
pub gap_step : (a b : ℕ) → gcd_of (abs_diff a b) (min a b) ≡ gcd_of a b
gap_step a b = elim (cases_lt a b) [
  | inl lt ↦
      let gap : abs_diff a b ≡ b - a = omega arith in
      let least : min a b ≡ a = omega arith in
      ap₂ gcd_of gap least ∙ gcd_of-sub b a (omega arith) ∙ gcd_of_comm b a
  | inr ge ↦
      let gap : abs_diff a b ≡ a - b = omega arith in
      let least : min a b ≡ b = omega arith in
      ap₂ gcd_of gap least ∙ gcd_of-sub a b ge
]

-- the greater number and the smaller
pub ordered : (a b : ℕ) → gcd_of (max a b) (min a b) ≡ gcd_of a b
ordered a b = elim (cases_lt a b) [
  | inl lt ↦
      let most : max a b ≡ b = omega arith in
      let least : min a b ≡ a = omega arith in
      ap₂ gcd_of most least ∙ gcd_of_comm b a
  | inr ge ↦
      let most : max a b ≡ a = omega arith in
      let least : min a b ≡ b = omega arith in
      ap₂ gcd_of most least
]

pub min_odd : (a b : ℕ) → a % 2 ≡ 1 → b % 2 ≡ 1 → min a b % 2 ≡ 1
min_odd a b p q = elim (cases_lt a b) [
  | inl lt ↦ let least : min a b ≡ a = omega arith in ap (λ m. m % 2) least ∙ p
  | inr ge ↦ let least : min a b ≡ b = omega arith in ap (λ m. m % 2) least ∙ q
]

-- ---- the factors of 2 that both have
twos_left : (x y i k : ℕ) → x % 2 ≡ 1 → gcd_of (x * 2 ^ i) (y * 2 ^ (i + k)) ≡ gcd_of x y * 2 ^ i
twos_left x y i k p =
    let e : y * 2 ^ (i + k) ≡ 2 ^ i * (y * 2 ^ k) = omega (arith, ap (λ m. y * m) (pow-add 2 i k)) in
    ap₂ gcd_of (mul_comm x (2 ^ i)) e ∙ gcd_of-mul x (y * 2 ^ k) (2 ^ i)
    ∙ ap (λ m. 2 ^ i * m) (gcd_of-mul_coprime x y (2 ^ k) (gcd_of_comm x (2 ^ k) ∙ pow-coprime k x p)) ∙ mul_comm (2 ^ i) (gcd_of x y)

pub twos_both : (x y i j : ℕ) → x % 2 ≡ 1 → y % 2 ≡ 1 → gcd_of (x * 2 ^ i) (y * 2 ^ j) ≡ gcd_of x y * 2 ^ min i j
twos_both x y i j p q = elim (cases_lt i j) [
  | inl lt ↦
      let least : min i j ≡ i = omega arith in
      let e : i + (j - i) ≡ j = omega arith in
      ap (λ n. gcd_of (x * 2 ^ i) (y * 2 ^ n)) (sym e) ∙ twos_left x y i (j - i) p ∙ ap (λ n. gcd_of x y * 2 ^ n) (sym least)
  | inr ge ↦
      let least : min i j ≡ j = omega arith in
      let e : j + (i - j) ≡ i = omega arith in
      gcd_of_comm (x * 2 ^ i) (y * 2 ^ j) ∙ ap (λ n. gcd_of (y * 2 ^ j) (x * 2 ^ n)) (sym e) ∙ twos_left y x j (i - j) q
      ∙ ap₂ ◌*◌ (gcd_of_comm y x) (ap (λ n. 2 ^ n) (sym least))
]

-- of two numbers of k bits, from their odd parts and the lesser count of zeros
pub twos_shared : (k a b : ℕ) → 0 < a → 0 < b → a < 2 ^ k → b < 2 ^ k →
    gcd_of (a / 2 ^ count_trailing_zeros k a) (b / 2 ^ count_trailing_zeros k b) * 2 ^ min (count_trailing_zeros k a) (count_trailing_zeros k b) ≡ gcd_of a b
twos_shared k a b p q h g =
    let i : ℕ = count_trailing_zeros k a in
    let j : ℕ = count_trailing_zeros k b in
    sym (twos_both (a / 2 ^ i) (b / 2 ^ j) i j (trailing_odd k a p h) (trailing_odd k b q g)) ∙ ap₂ gcd_of (trailing_mul k a p h) (trailing_mul k b q g)
