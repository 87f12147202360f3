-- Signs, order, cancellation and exact division over ℤ.
use Rattle.exact_num.proofs.Common.{◌≡◌, ◌≢◌, ℕ, zero, suc, ◌+◌, ◌/◌, ◌<◌, ℤ, pos, negsuc, neg_ℤ, ◌*ℤ◌, sym, refl, ap, ◌∙◌, inl, inr, arith, ◌⊎◌, cases_lt, unsigned_abs, int_div, ◌<ℤ◌, ◌≤ℤ◌, ◌∣◌, ints, unsigned_abs-mul, eq_of_mul-eq-mul_right, div-mul_cancel, mul-le-mul_left, up, down, le_out, lt_out, signed_by}
use Rattle.exact_num.proofs.Ring.{*ℤ_comm, neg_ℤ-*ℤ, *ℤ-neg_ℤ, zero-*ℤ}

-- ---- absolute values and signs
pub unsigned_abs-neg_ℤ : (a : ℤ) → unsigned_abs (neg_ℤ a) ≡ unsigned_abs a
unsigned_abs-neg_ℤ a = omega (arith, ints)

pub unsigned_abs-signed_by : (d a : ℤ) → unsigned_abs (signed_by d a) ≡ unsigned_abs a
unsigned_abs-signed_by (pos n) a = refl
unsigned_abs-signed_by (negsuc n) a = unsigned_abs-neg_ℤ a

-- a number is its absolute value with its sign
pub signed_by-mul : (d a : ℤ) → signed_by d a *ℤ d ≡ a *ℤ pos (unsigned_abs d)
signed_by-mul (pos n) a = refl
signed_by-mul (negsuc n) a = neg_ℤ-*ℤ a (negsuc n) ∙ sym (*ℤ-neg_ℤ a (negsuc n))

pub pos-unsigned_abs : (d : ℤ) → pos 0 ≤ℤ d → pos (unsigned_abs d) ≡ d
pos-unsigned_abs d h = omega (arith, ints)

pub unsigned_abs_pos : (d : ℤ) → d ≢ pos 0 → 0 < unsigned_abs d
unsigned_abs_pos d h = omega (arith, ints)

pub unsigned_abs-zero : (d : ℤ) → unsigned_abs d ≡ 0 → d ≡ pos 0
unsigned_abs-zero d h = omega (arith, ints)

pub nonzero_of_pos : (d : ℤ) → pos 0 <ℤ d → d ≢ pos 0
nonzero_of_pos d h e = omega (arith, ints)

pub ≤ℤ_or_<ℤ : (a b : ℤ) → (a ≤ℤ b) ⊎ (b <ℤ a)
≤ℤ_or_<ℤ a b = elim (cases_lt (up b + down a) (up a + down b)) [ inl lt ↦ inr (omega (arith, ints)) | inr le ↦ inl (omega (arith, ints)) ]

-- ---- cancellation
pub *ℤ_cancel : (a b c : ℤ) → c ≢ pos 0 → a *ℤ c ≡ b *ℤ c → a ≡ b
*ℤ_cancel (pos a) (pos b) c n e =
    ap pos (eq_of_mul-eq-mul_right (unsigned_abs c) (unsigned_abs_pos c n) a b (sym (unsigned_abs-mul (pos a) c) ∙ ap unsigned_abs e ∙ unsigned_abs-mul (pos b) c))
*ℤ_cancel (negsuc a) (negsuc b) c n e =
    let s : suc a ≡ suc b = eq_of_mul-eq-mul_right (unsigned_abs c) (unsigned_abs_pos c n) (suc a) (suc b) (sym (unsigned_abs-mul (negsuc a) c) ∙ ap unsigned_abs e ∙ unsigned_abs-mul (negsuc b) c) in
    ap negsuc (omega arith)
*ℤ_cancel (pos a) (negsuc b) (pos c) n e = absurd (n (omega (arith, ints)))
*ℤ_cancel (pos a) (negsuc b) (negsuc c) n e = absurd (n (omega (arith, ints)))
*ℤ_cancel (negsuc a) (pos b) (pos c) n e = absurd (n (omega (arith, ints)))
*ℤ_cancel (negsuc a) (pos b) (negsuc c) n e = absurd (n (omega (arith, ints)))

pub *ℤ_nonzero : (a b : ℤ) → a ≢ pos 0 → b ≢ pos 0 → a *ℤ b ≢ pos 0
*ℤ_nonzero a b p q e = p (*ℤ_cancel a (pos 0) b q (e ∙ sym (zero-*ℤ b)))

-- ---- order under products
pub *ℤ_pos : (a b : ℤ) → pos 0 <ℤ a → pos 0 <ℤ b → pos 0 <ℤ (a *ℤ b)
*ℤ_pos (pos zero) b p q = omega (arith, ints)
*ℤ_pos (pos (suc a)) (pos zero) p q = omega (arith, ints)
*ℤ_pos (pos (suc a)) (pos (suc b)) p q = omega (arith, ints)
*ℤ_pos (pos (suc a)) (negsuc b) p q = omega (arith, ints)
*ℤ_pos (negsuc a) b p q = omega (arith, ints)

pub *ℤ_nonnegative : (a b : ℤ) → pos 0 ≤ℤ a → pos 0 ≤ℤ b → pos 0 ≤ℤ (a *ℤ b)
*ℤ_nonnegative (pos a) (pos b) p q = omega (arith, ints)
*ℤ_nonnegative (pos a) (negsuc b) p q = omega (arith, ints)
*ℤ_nonnegative (negsuc a) b p q = omega (arith, ints)

-- a factor that is not negative keeps `≤`, and one that is not positive turns it
pub *ℤ-≤ℤ : (a b k : ℤ) → pos 0 ≤ℤ k → a ≤ℤ b → (a *ℤ k) ≤ℤ (b *ℤ k)
*ℤ-≤ℤ a b (pos k) p h = omega (arith, ints, mul-le-mul_left k (le_out a b h))
*ℤ-≤ℤ a b (negsuc k) p h = absurd (omega (arith, ints))

pub ≤ℤ-*ℤ : (a b k : ℤ) → pos 0 ≤ℤ k → a ≤ℤ b → (k *ℤ a) ≤ℤ (k *ℤ b)
≤ℤ-*ℤ a b (pos k) p h = omega (arith, ints, mul-le-mul_left k (le_out a b h))
≤ℤ-*ℤ a b (negsuc k) p h = absurd (omega (arith, ints))

pub *ℤ-≤ℤ-neg : (a b k : ℤ) → k ≤ℤ pos 0 → a ≤ℤ b → (b *ℤ k) ≤ℤ (a *ℤ k)
*ℤ-≤ℤ-neg a b (pos zero) p h = omega (arith, ints)
*ℤ-≤ℤ-neg a b (pos (suc k)) p h = absurd (omega (arith, ints))
*ℤ-≤ℤ-neg a b (negsuc k) p h = omega (arith, ints, mul-le-mul_left (suc k) (le_out a b h))

-- a positive factor keeps `<`
pub *ℤ-<ℤ : (a b k : ℤ) → pos 0 <ℤ k → a <ℤ b → (a *ℤ k) <ℤ (b *ℤ k)
*ℤ-<ℤ a b (pos zero) p h = absurd (omega (arith, ints))
*ℤ-<ℤ a b (pos (suc k)) p h = omega (arith, ints, mul-le-mul_left (suc k) (lt_out a b h))
*ℤ-<ℤ a b (negsuc k) p h = absurd (omega (arith, ints))

pub <ℤ-*ℤ : (a b k : ℤ) → pos 0 <ℤ k → a <ℤ b → (k *ℤ a) <ℤ (k *ℤ b)
<ℤ-*ℤ a b k p h = rw (*ℤ_comm k a, *ℤ_comm k b) (*ℤ-<ℤ a b k p h)

-- a positive factor is taken away
pub ≤ℤ_cancel : (a b k : ℤ) → pos 0 <ℤ k → (a *ℤ k) ≤ℤ (b *ℤ k) → a ≤ℤ b
≤ℤ_cancel a b k p h = elim (≤ℤ_or_<ℤ a b) [ inl le ↦ le | inr gt ↦ let back = *ℤ-<ℤ b a k p gt in absurd (omega (arith, ints)) ]

pub <ℤ_cancel : (a b k : ℤ) → pos 0 <ℤ k → (a *ℤ k) <ℤ (b *ℤ k) → a <ℤ b
<ℤ_cancel a b k p h = elim (≤ℤ_or_<ℤ b a) [ inl le ↦ let back = *ℤ-≤ℤ b a k (omega (arith, ints)) le in absurd (omega (arith, ints)) | inr gt ↦ gt ]

-- ---- exact division by a natural
pub unsigned_abs-int_div : (a : ℤ) (g : ℕ) → unsigned_abs (int_div a (pos g)) ≡ unsigned_abs a / g
unsigned_abs-int_div (pos a) g = refl
unsigned_abs-int_div (negsuc a) g = unsigned_abs-neg_ℤ (pos (suc a / g))

-- a divisor divided out and multiplied again
pub int_div-mul : (a : ℤ) (g : ℕ) → g ∣ unsigned_abs a → int_div a (pos g) *ℤ pos g ≡ a
int_div-mul (pos a) g h = ap pos (div-mul_cancel g h)
int_div-mul (negsuc a) g h = neg_ℤ-*ℤ (pos (suc a / g)) (pos g) ∙ ap (λ n. neg_ℤ (pos n)) (div-mul_cancel g h)
