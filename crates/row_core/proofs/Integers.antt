-- Products over ℤ: their laws with sums, and that a positive factor keeps and reflects the order.
use Rattle.row_core.proofs.Common.{◌≡◌, ℕ, zero, suc, ◌*◌, ◌<◌, ℤ, pos, ◌+ℤ◌, ◌-ℤ◌, ◌*ℤ◌, sym, ap, ◌∙◌, arith, unsigned_abs, ◌<ℤ◌, ◌≤ℤ◌, ints, by_lt_z}
use borrow.Author.Differences.{up, down, sum_is_lem, product_is}

-- an equation of naturals times k
times : (k : ℕ) {m n : ℕ} → m ≡ n → m * k ≡ n * k
times k e = ap (λ m. m * k) e

pub *ℤ_comm : (a b : ℤ) → a *ℤ b ≡ b *ℤ a
*ℤ_comm a b = omega (arith, ints)

pub *ℤ_assoc : (a b c : ℤ) → (a *ℤ b) *ℤ c ≡ a *ℤ (b *ℤ c)
*ℤ_assoc a b c =
    let l = product_is a b in
    let r = product_is b c in
    omega (arith, ints, times (up c) l.0, times (up c) l.1, times (down c) l.0, times (down c) l.1, times (up a) r.0, times (up a) r.1, times (down a) r.0, times (down a) r.1)

pub *ℤ_left_comm : (a b c : ℤ) → a *ℤ (b *ℤ c) ≡ b *ℤ (a *ℤ c)
*ℤ_left_comm a b c = sym (*ℤ_assoc a b c) ∙ ap (λ x. x *ℤ c) (*ℤ_comm a b) ∙ *ℤ_assoc b a c

pub *ℤ-+ℤ : (a b c : ℤ) → a *ℤ (b +ℤ c) ≡ (a *ℤ b) +ℤ (a *ℤ c)
*ℤ-+ℤ a b c = omega (arith, ints, times (up a) (sum_is_lem b c), times (down a) (sum_is_lem b c))

pub +ℤ_assoc : (a b c : ℤ) → (a +ℤ b) +ℤ c ≡ a +ℤ (b +ℤ c)
+ℤ_assoc a b c = omega (arith, ints)

pub *ℤ-zero : (a : ℤ) → a *ℤ pos 0 ≡ pos 0
*ℤ-zero a = omega (arith, ints)

pub zero-+ℤ : (a : ℤ) → pos 0 +ℤ a ≡ a
zero-+ℤ a = omega (arith, ints)

-- a positive factor keeps the strict order
pub scaled_lt : (k : ℕ) (a b : ℤ) → 0 < k → a <ℤ b → (pos k *ℤ a) <ℤ (pos k *ℤ b)
scaled_lt zero a b h less = absurd (omega arith)
scaled_lt (suc k) a b h less =
    let n : ℕ = unsigned_abs (b -ℤ a) in
    let by : b ≡ a +ℤ pos n = omega (arith, ints) in
    let apart : 0 < n = omega (arith, ints) in
    let more : 0 < suc k * n = omega arith in
    let e : pos (suc k) *ℤ b ≡ (pos (suc k) *ℤ a) +ℤ pos (suc k * n) = ap (λ z. pos (suc k) *ℤ z) by ∙ *ℤ-+ℤ (pos (suc k)) a (pos n) in
    omega (arith, ints)

-- and so the order, and with it equality, both ways
pub scaled_le : (k : ℕ) (a b : ℤ) → a ≤ℤ b → (pos k *ℤ a) ≤ℤ (pos k *ℤ b)
scaled_le zero a b h = omega (arith, ints)
scaled_le (suc k) a b h =
    by_lt_z a b
    (λ less. let lt : (pos (suc k) *ℤ a) <ℤ (pos (suc k) *ℤ b) = scaled_lt (suc k) a b (omega arith) less in omega (arith, ints))
    (λ back.
    let same : a ≡ b = omega (arith, ints) in
    let e : pos (suc k) *ℤ a ≡ pos (suc k) *ℤ b = ap (λ z. pos (suc k) *ℤ z) same in
    omega (arith, ints))

pub unscaled_le : (k : ℕ) (a b : ℤ) → 0 < k → (pos k *ℤ a) ≤ℤ (pos k *ℤ b) → a ≤ℤ b
unscaled_le k a b h scaled =
    by_lt_z b a (λ less. let lt : (pos k *ℤ b) <ℤ (pos k *ℤ a) = scaled_lt k b a h less in omega (arith, ints)) (λ le. le)

pub unscaled_eq : (k : ℕ) (a b : ℤ) → 0 < k → pos k *ℤ a ≡ pos k *ℤ b → a ≡ b
unscaled_eq k a b h same =
    let le : a ≤ℤ b = unscaled_le k a b h (omega (arith, ints)) in
    let ge : b ≤ℤ a = unscaled_le k b a h (omega (arith, ints)) in
    omega (arith, ints)
