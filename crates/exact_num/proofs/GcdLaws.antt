-- The laws of the greatest common divisor, over ℕ.
use Rattle.exact_num.proofs.Common.{◌≡◌, ℕ, zero, suc, ◌+◌, ◌*◌, ◌/◌, ◌%◌, ◌-◌, ◌<◌, ◌≤◌, sym, ap, subst, ◌∙◌, refl, arith, IsGcd, ◌∣◌, dvd_antisymm, IsGcd-from_zero, IsGcd-from_mod, IsGcd-from_sub, IsGcd-swap, same_from_IsGcd, dvd_refl, dvd_trans, le_of_dvd, dvd-mul_left, dvd-mul_right_of_dvd, eq-one_of_dvd-one, div-mul_cancel, mul_comm, dvd-sub, eq_of_mul-eq-mul_right, mul-dvd-mul_left, pos_of_dvd_of_pos, gcd_of, gcd_within}

within-IsGcd : (k a b : ℕ) → b ≤ k → IsGcd a b (gcd_within k a b)
unfolding gcd_within
within-IsGcd zero a b h = IsGcd-from_zero a b (omega arith)
within-IsGcd (suc k) a zero h = IsGcd-from_zero a zero refl
within-IsGcd (suc k) a (suc b) h =
    IsGcd-from_mod a (suc b) (gcd_within k (suc b) (a % suc b)) (within-IsGcd k (suc b) (a % suc b) (omega arith))

-- it divides both, and every number that divides both divides it
pub gcd_of-IsGcd : (a b : ℕ) → IsGcd a b (gcd_of a b)
unfolding gcd_of
gcd_of-IsGcd a b = within-IsGcd b a b (omega arith)

pub gcd_of-dvd_left : (a b : ℕ) → gcd_of a b ∣ a
gcd_of-dvd_left a b = (gcd_of-IsGcd a b).0

pub gcd_of-dvd_right : (a b : ℕ) → gcd_of a b ∣ b
gcd_of-dvd_right a b = (gcd_of-IsGcd a b).1

pub dvd-gcd_of : (d a b : ℕ) → d ∣ a → d ∣ b → d ∣ gcd_of a b
dvd-gcd_of d a b p q = (gcd_of-IsGcd a b).2 d p q

-- there is one such number
pub gcd_of_unique : (a b g : ℕ) → IsGcd a b g → gcd_of a b ≡ g
gcd_of_unique a b g h = same_from_IsGcd a b (gcd_of a b) g (gcd_of-IsGcd a b) h

pub gcd_of_comm : (a b : ℕ) → gcd_of a b ≡ gcd_of b a
gcd_of_comm a b = gcd_of_unique a b (gcd_of b a) (IsGcd-swap b a (gcd_of b a) (gcd_of-IsGcd b a))

-- one step by a remainder, and one by a difference
pub gcd_of-mod : (a b : ℕ) → gcd_of b (a % b) ≡ gcd_of a b
gcd_of-mod a b = sym (gcd_of_unique a b (gcd_of b (a % b)) (IsGcd-from_mod a b (gcd_of b (a % b)) (gcd_of-IsGcd b (a % b))))

pub gcd_of-sub : (a b : ℕ) → b ≤ a → gcd_of (a - b) b ≡ gcd_of a b
gcd_of-sub a b h = sym (gcd_of_unique a b (gcd_of (a - b) b) (IsGcd-from_sub a b (gcd_of (a - b) b) h (gcd_of-IsGcd (a - b) b)))

pub gcd_of-zero : (a : ℕ) → gcd_of a 0 ≡ a
gcd_of-zero a = gcd_of_unique a 0 a (IsGcd-from_zero a 0 refl)

pub gcd_of_at_zero : (a b : ℕ) → b ≡ 0 → gcd_of a b ≡ a
gcd_of_at_zero a b e = ap (gcd_of a) e ∙ gcd_of-zero a

pub zero-gcd_of : (a : ℕ) → gcd_of 0 a ≡ a
zero-gcd_of a = gcd_of_comm 0 a ∙ gcd_of-zero a

pub gcd_of-one : (a : ℕ) → gcd_of a 1 ≡ 1
gcd_of-one a = eq-one_of_dvd-one (gcd_of-dvd_right a 1)

pub one-gcd_of : (a : ℕ) → gcd_of 1 a ≡ 1
one-gcd_of a = eq-one_of_dvd-one (gcd_of-dvd_left 1 a)

pub gcd_of-self : (a : ℕ) → gcd_of a a ≡ a
gcd_of-self a = gcd_of_unique a a a (dvd_refl a, dvd_refl a, λ d p q. p)

-- it is not above either number that is not 0
pub gcd_of-le_left : (a b : ℕ) → 0 < a → gcd_of a b ≤ a
gcd_of-le_left a b h = le_of_dvd h (gcd_of-dvd_left a b)

pub gcd_of-le_right : (a b : ℕ) → 0 < b → gcd_of a b ≤ b
gcd_of-le_right a b h = le_of_dvd h (gcd_of-dvd_right a b)

pub gcd_of_pos_left : (a b : ℕ) → 0 < a → 0 < gcd_of a b
gcd_of_pos_left a b h = pos_of_dvd_of_pos (gcd_of-dvd_left a b) h

pub gcd_of_pos_right : (a b : ℕ) → 0 < b → 0 < gcd_of a b
gcd_of_pos_right a b h = pos_of_dvd_of_pos (gcd_of-dvd_right a b) h

remainder_is : (c a n : ℕ) → c * a - c * (n * (a / n)) ≡ c * (a % n)
remainder_is c a n =
    let split : n * (a / n) + a % n ≡ a = omega arith in
    omega (arith, ap (λ m. c * m) split)

within-scaled : (k a b c d : ℕ) → b ≤ k → d ∣ c * a → d ∣ c * b → d ∣ c * gcd_within k a b
unfolding gcd_within
within-scaled zero a b c d h p q = p
within-scaled (suc k) a zero c d h p q = p
within-scaled (suc k) a (suc b) c d h p q =
    let whole : d ∣ c * (suc b * (a / suc b)) = subst (λ m. d ∣ m) (omega arith) (dvd-mul_right_of_dvd d q (a / suc b)) in
    let rest : d ∣ c * (a % suc b) = subst (λ m. d ∣ m) (remainder_is c a (suc b)) (dvd-sub d p whole) in
    within-scaled k (suc b) (a % suc b) c d (omega arith) q rest

-- what divides c times each number divides c times their greatest common divisor
pub dvd-mul-gcd_of : (a b c d : ℕ) → d ∣ c * a → d ∣ c * b → d ∣ c * gcd_of a b
unfolding gcd_of
dvd-mul-gcd_of a b c d p q = within-scaled b a b c d (omega arith) p q

pub gcd_of-mul : (a b c : ℕ) → gcd_of (c * a) (c * b) ≡ c * gcd_of a b
gcd_of-mul a b c = gcd_of_unique (c * a) (c * b) (c * gcd_of a b)
    (mul-dvd-mul_left (gcd_of a b) c (gcd_of-dvd_left a b), mul-dvd-mul_left (gcd_of a b) c (gcd_of-dvd_right a b), λ d p q. dvd-mul-gcd_of a b c d p q)

-- Euclid's lemma
pub dvd_from_coprime : (a b c : ℕ) → gcd_of a b ≡ 1 → a ∣ b * c → a ∣ c
dvd_from_coprime a b c e h =
    let P : ℕ → Type 0 = λ m. a ∣ m in
    subst P (ap (λ m. c * m) e ∙ omega arith) (dvd-mul-gcd_of a b c a (dvd-mul_left a c) (subst P (mul_comm b c) h))

-- divisors of two numbers with no common divisor have none either
pub coprime_of_dvd : (a b c d : ℕ) → c ∣ a → d ∣ b → gcd_of a b ≡ 1 → gcd_of c d ≡ 1
coprime_of_dvd a b c d p q e =
    let left : gcd_of c d ∣ a = dvd_trans (gcd_of c d) (gcd_of-dvd_left c d) p in
    let right : gcd_of c d ∣ b = dvd_trans (gcd_of c d) (gcd_of-dvd_right c d) q in
    let P : ℕ → Type 0 = λ m. gcd_of c d ∣ m in
    eq-one_of_dvd-one (subst P e (dvd-gcd_of (gcd_of c d) a b left right))

-- a number that has no common divisor with b and none with c has none with their product
pub coprime-mul : (a b c : ℕ) → gcd_of a b ≡ 1 → gcd_of a c ≡ 1 → gcd_of a (b * c) ≡ 1
coprime-mul a b c p q =
    let d : ℕ = gcd_of a (b * c) in
    let to_b : gcd_of d b ≡ 1 = coprime_of_dvd a b d b (gcd_of-dvd_left a (b * c)) (dvd_refl b) p in
    let to_c : d ∣ c = dvd_from_coprime d b c to_b (gcd_of-dvd_right a (b * c)) in
    let P : ℕ → Type 0 = λ m. d ∣ m in
    eq-one_of_dvd-one (subst P q (dvd-gcd_of d a c (gcd_of-dvd_left a (b * c)) to_c))

pub mul-coprime : (a b c : ℕ) → gcd_of a c ≡ 1 → gcd_of b c ≡ 1 → gcd_of (a * b) c ≡ 1
mul-coprime a b c p q = gcd_of_comm (a * b) c ∙ coprime-mul c a b (gcd_of_comm c a ∙ p) (gcd_of_comm c b ∙ q)

-- a factor with no divisor in common with a adds none to the greatest common divisor
pub gcd_of-mul_coprime : (a b c : ℕ) → gcd_of a c ≡ 1 → gcd_of a (b * c) ≡ gcd_of a b
gcd_of-mul_coprime a b c e =
    let d : ℕ = gcd_of a (b * c) in
    let apart : gcd_of d c ≡ 1 = coprime_of_dvd a c d c (gcd_of-dvd_left a (b * c)) (dvd_refl c) e in
    let P : ℕ → Type 0 = λ m. d ∣ m in
    let in_b : d ∣ b = dvd_from_coprime d c b apart (subst P (mul_comm b c) (gcd_of-dvd_right a (b * c))) in
    dvd_antisymm (dvd-gcd_of d a b (gcd_of-dvd_left a (b * c)) in_b)
    (dvd-gcd_of (gcd_of a b) a (b * c) (gcd_of-dvd_left a b) (dvd-mul_right_of_dvd (gcd_of a b) (gcd_of-dvd_right a b) c))

-- two numbers divided by their greatest common divisor have none left
pub coprime-div : (a b : ℕ) → 0 < gcd_of a b → gcd_of (a / gcd_of a b) (b / gcd_of a b) ≡ 1
coprime-div a b h =
    let g : ℕ = gcd_of a b in
    let left : g * (a / g) ≡ a = mul_comm g (a / g) ∙ div-mul_cancel g (gcd_of-dvd_left a b) in
    let right : g * (b / g) ≡ b = mul_comm g (b / g) ∙ div-mul_cancel g (gcd_of-dvd_right a b) in
    let scaled : g * gcd_of (a / g) (b / g) ≡ g = sym (gcd_of-mul (a / g) (b / g) g) ∙ (rw (left, right) refl) in
    eq_of_mul-eq-mul_right g h (gcd_of (a / g) (b / g)) 1 (omega (arith, scaled))

-- it lies below every bound of both
pub gcd_of_below : (a b n : ℕ) → a < n → b < n → gcd_of a b < n
gcd_of_below zero b n p q = rw (zero-gcd_of b) q
gcd_of_below (suc a) b n p q = omega (arith, gcd_of-le_left (suc a) b (omega arith))
