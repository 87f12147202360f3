-- The ring laws over ℤ, and a set of them by which `simp ring` brings both sides of an equation to one form.
use Rattle.exact_num.proofs.Common.{◌≡◌, ℤ, pos, ◌+ℤ◌, ◌-ℤ◌, ◌*ℤ◌, neg_ℤ, sym, ap, ◌∙◌, refl, arith, ℕ, ◌*◌, ints, up, down, sum_is_lem, product_is, neg_is}

-- an equation of naturals times k
times : (k : ℕ) {m n : ℕ} → m ≡ n → m * k ≡ n * k
times k e = ap (λ m. m * k) e

pub +ℤ_assoc : (a b c : ℤ) → (a +ℤ b) +ℤ c ≡ a +ℤ (b +ℤ c)
+ℤ_assoc a b c = omega (arith, ints)

pub +ℤ_comm : (a b : ℤ) → a +ℤ b ≡ b +ℤ a
+ℤ_comm a b = omega (arith, ints)

pub +ℤ_left_comm : (a b c : ℤ) → a +ℤ (b +ℤ c) ≡ b +ℤ (a +ℤ c)
+ℤ_left_comm a b c = omega (arith, ints)

pub *ℤ_comm : (a b : ℤ) → a *ℤ b ≡ b *ℤ a
*ℤ_comm a b = omega (arith, ints)

pub *ℤ_assoc : (a b c : ℤ) → (a *ℤ b) *ℤ c ≡ a *ℤ (b *ℤ c)
*ℤ_assoc a b c =
    let l = product_is a b in
    let r = product_is b c in
    omega (arith, ints, times (up c) l.0, times (up c) l.1, times (down c) l.0, times (down c) l.1, times (up a) r.0, times (up a) r.1, times (down a) r.0, times (down a) r.1)

pub *ℤ_left_comm : (a b c : ℤ) → a *ℤ (b *ℤ c) ≡ b *ℤ (a *ℤ c)
*ℤ_left_comm a b c = sym (*ℤ_assoc a b c) ∙ ap (λ x. x *ℤ c) (*ℤ_comm a b) ∙ *ℤ_assoc b a c

pub *ℤ-+ℤ : (a b c : ℤ) → a *ℤ (b +ℤ c) ≡ a *ℤ b +ℤ a *ℤ c
*ℤ-+ℤ a b c = omega (arith, ints, times (up a) (sum_is_lem b c), times (down a) (sum_is_lem b c))

pub +ℤ-*ℤ : (a b c : ℤ) → (a +ℤ b) *ℤ c ≡ a *ℤ c +ℤ b *ℤ c
+ℤ-*ℤ a b c = omega (arith, ints, times (up c) (sum_is_lem a b), times (down c) (sum_is_lem a b))

pub neg_ℤ-*ℤ : (a b : ℤ) → neg_ℤ a *ℤ b ≡ neg_ℤ (a *ℤ b)
neg_ℤ-*ℤ a b =
    let n = neg_is a in
    omega (arith, ints, times (up b) n.0, times (up b) n.1, times (down b) n.0, times (down b) n.1)

pub *ℤ-neg_ℤ : (a b : ℤ) → a *ℤ neg_ℤ b ≡ neg_ℤ (a *ℤ b)
*ℤ-neg_ℤ a b = *ℤ_comm a (neg_ℤ b) ∙ neg_ℤ-*ℤ b a ∙ ap neg_ℤ (*ℤ_comm b a)

pub neg_ℤ-+ℤ : (a b : ℤ) → neg_ℤ (a +ℤ b) ≡ neg_ℤ a +ℤ neg_ℤ b
neg_ℤ-+ℤ a b = omega (arith, ints)

pub neg_ℤ-neg_ℤ : (a : ℤ) → neg_ℤ (neg_ℤ a) ≡ a
neg_ℤ-neg_ℤ a = omega (arith, ints)

pub *ℤ-one : (a : ℤ) → a *ℤ pos 1 ≡ a
*ℤ-one a = omega (arith, ints)

pub one-*ℤ : (a : ℤ) → pos 1 *ℤ a ≡ a
one-*ℤ a = omega (arith, ints)

pub *ℤ-zero : (a : ℤ) → a *ℤ pos 0 ≡ pos 0
*ℤ-zero a = omega (arith, ints)

pub zero-*ℤ : (a : ℤ) → pos 0 *ℤ a ≡ pos 0
zero-*ℤ a = omega (arith, ints)

pub +ℤ-zero : (a : ℤ) → a +ℤ pos 0 ≡ a
+ℤ-zero a = omega (arith, ints)

pub zero-+ℤ : (a : ℤ) → pos 0 +ℤ a ≡ a
zero-+ℤ a = omega (arith, ints)

pub +ℤ-neg_ℤ : (a : ℤ) → a +ℤ neg_ℤ a ≡ pos 0
+ℤ-neg_ℤ a = omega (arith, ints)

pub neg_ℤ-zero : neg_ℤ (pos 0) ≡ pos 0
neg_ℤ-zero = refl

-- products multiplied out, signs in front, factors and summands sorted, 0 and 1 taken away
pub ruleset ring = (*ℤ-+ℤ, +ℤ-*ℤ, neg_ℤ-*ℤ, *ℤ-neg_ℤ, neg_ℤ-+ℤ, neg_ℤ-neg_ℤ, neg_ℤ-zero, *ℤ-one, one-*ℤ, *ℤ-zero, zero-*ℤ, +ℤ-zero, zero-+ℤ, *ℤ_assoc, *ℤ_comm, *ℤ_left_comm, +ℤ_assoc, +ℤ_comm, +ℤ_left_comm)

-- the same for products alone
pub ruleset products = (*ℤ_assoc, *ℤ_comm, *ℤ_left_comm)
