-- The order of exact values: how whole parts and remainders decide it, and how it goes with sums and products.
use Rattle.exact_num.proofs.Common.{◌≡◌, ◌≢◌, ℕ, zero, suc, ◌+◌, ◌-◌, ◌*◌, ◌/◌, ◌%◌, ◌<◌, ℤ, pos, negsuc, neg_ℤ, ◌+ℤ◌, ◌-ℤ◌, ◌*ℤ◌, sym, refl, ap, ap₂, ◌∙◌, subst, inl, inr, arith, unsigned_abs, ◌<ℤ◌, ◌≤ℤ◌, Less, Equal, Greater, nat_cmp, int_cmp, MatchOrdering, cases_order, nat_tests, ints, mul-lt-mul_of_pos_left, mul_comm, Rational, IsLowest, lowest, whole, plus, minus, times, order_of}
use Rattle.std.specs.declared.cmp.Ordering.{Ordering}
use Rattle.std.specs.Cmp.{int_cmp_is, int_ranks}
use Rattle.exact_num.proofs.ArithmeticLaws.{lowest-zero, minus-plus_both}
use Rattle.exact_num.proofs.Integers.{*ℤ_pos, *ℤ-<ℤ, nonzero_of_pos}
use Rattle.exact_num.proofs.RationalLaws.{bottom_nonzero, lowest-cross, lowest-IsLowest, lowest-self, plus-IsLowest, times-IsLowest, times-cross}
use Rattle.exact_num.proofs.Ring.{products, *ℤ-one, zero-*ℤ}

-- ---- naturals
pub nat_cmp-less : (m n : ℕ) → m < n → nat_cmp m n ≡ Less
nat_cmp-less m n h = grind (arith, nat_tests)

pub nat_cmp-equal : (m n : ℕ) → m ≡ n → nat_cmp m n ≡ Equal
nat_cmp-equal m n h = grind (arith, nat_tests)

pub nat_cmp-greater : (m n : ℕ) → n < m → nat_cmp m n ≡ Greater
nat_cmp-greater m n h = grind (arith, nat_tests)

-- two comparisons agree where each difference is the same
nat_cmp_shift : (m n k : ℕ) → nat_cmp (k + m) (k + n) ≡ nat_cmp m n
nat_cmp_shift m n k = elim (cases_order m n) [
  | inl e ↦ nat_cmp-equal (k + m) (k + n) (omega arith) ∙ sym (nat_cmp-equal m n e)
  | inr h ↦ elim h [
    | inl l ↦ nat_cmp-less (k + m) (k + n) (omega arith) ∙ sym (nat_cmp-less m n l)
    | inr g ↦ nat_cmp-greater (k + m) (k + n) (omega arith) ∙ sym (nat_cmp-greater m n g)
  ]
]

-- ---- whole parts and remainders: a/b against c/d
whole_less : (b d p k r s : ℕ) → r < b → 0 < d → (b * p + r) * d < (d * (p + suc k) + s) * b
whole_less b d p k r s h e = omega (arith, mul-lt-mul_of_pos_left {m = r} {n = b} {k = d} h e)

split : (a b : ℕ) → 0 < b → b * (a / b) + a % b ≡ a
split a b h = omega arith

pub whole_below : (a b c d : ℕ) → 0 < b → 0 < d → a / b < c / d → a * d < c * b
whole_below a b c d p q h =
    let k : ℕ = c / d - suc (a / b) in
    let e : a / b + suc k ≡ c / d = omega arith in
    let small : a % b < b = omega arith in
    let P : ℕ → ℕ → Type 0 = λ m n. m * d < n * b in
    let less : P (b * (a / b) + a % b) (d * (a / b + suc k) + c % d) = whole_less b d (a / b) k (a % b) (c % d) small q in
    let right : d * (a / b + suc k) + c % d ≡ c = ap (λ n. d * n + c % d) e ∙ split c d q in
    subst (λ n. P a n) right (subst (λ m. P m (d * (a / b + suc k) + c % d)) (split a b p) less)

-- the whole parts decide where they differ
pub whole_decides : (a b c d : ℕ) → 0 < b → 0 < d → a / b ≢ c / d → nat_cmp (a / b) (c / d) ≡ nat_cmp (a * d) (c * b)
whole_decides a b c d p q ne = elim (cases_order (a / b) (c / d)) [
  | inl e ↦ absurd (ne e)
  | inr h ↦ elim h [
    | inl l ↦ nat_cmp-less (a / b) (c / d) l ∙ sym (nat_cmp-less (a * d) (c * b) (whole_below a b c d p q l))
    | inr g ↦ nat_cmp-greater (a / b) (c / d) g ∙ sym (nat_cmp-greater (a * d) (c * b) (whole_below c d a b q p g))
  ]
]

-- where they agree the remainders do
pub rests_decide : (a b c d : ℕ) → 0 < b → 0 < d → a / b ≡ c / d → nat_cmp (a % b * d) (c % d * b) ≡ nat_cmp (a * d) (c * b)
rests_decide a b c d p q e =
    let k : ℕ = b * (a / b) * d in
    let left : k + a % b * d ≡ a * d = omega (arith, ap (λ n. n * d) (split a b p)) in
    let right : k + c % d * b ≡ c * b = omega (arith, ap (λ n. n * b) (split c d q), ap (λ n. b * n * d) e) in
    sym (nat_cmp_shift (a % b * d) (c % d * b) k) ∙ ap₂ nat_cmp left right

-- a remainder of 0 is less than another
pub rest_zero : (r s b d : ℕ) → 0 < b → 0 < d → r ≡ 0 → nat_cmp r s ≡ nat_cmp (r * d) (s * b)
rest_zero zero zero b d p q e = nat_cmp-equal zero zero refl ∙ sym (nat_cmp-equal (zero * d) (zero * b) (omega arith))
rest_zero zero (suc s) b d p q e = nat_cmp-less zero (suc s) (omega arith) ∙ sym (nat_cmp-less (zero * d) (suc s * b) (omega arith))
rest_zero (suc r) s b d p q e = absurd (omega arith)

pub zero_rest : (r s b d : ℕ) → 0 < b → 0 < d → s ≡ 0 → nat_cmp r s ≡ nat_cmp (r * d) (s * b)
zero_rest zero zero b d p q e = nat_cmp-equal zero zero refl ∙ sym (nat_cmp-equal (zero * d) (zero * b) (omega arith))
zero_rest (suc r) zero b d p q e = nat_cmp-greater (suc r) zero (omega arith) ∙ sym (nat_cmp-greater (suc r * d) (zero * b) (omega arith))
zero_rest r (suc s) b d p q e = absurd (omega arith)

-- r/b against s/d is d/s against b/r
pub turned_over : (a b c d : ℕ) → 0 < b → 0 < d → a / b ≡ c / d → nat_cmp (d * (a % b)) (b * (c % d)) ≡ nat_cmp (a * d) (c * b)
turned_over a b c d p q e = ap₂ nat_cmp (mul_comm d (a % b)) (mul_comm b (c % d)) ∙ rests_decide a b c d p q e

-- ---- signs: fractions of naturals, and of their negatives
pub int_cmp-pos : (m n : ℕ) → int_cmp (pos m) (pos n) ≡ nat_cmp m n
int_cmp-pos m n = elim (cases_order m n) [
  | inl e ↦ sym (int_cmp_is (pos m) (pos n) Equal (ap pos e)) ∙ sym (nat_cmp-equal m n e)
  | inr h ↦ elim h [
    | inl l ↦ sym (int_cmp_is (pos m) (pos n) Less (omega (arith, ints))) ∙ sym (nat_cmp-less m n l)
    | inr g ↦ sym (int_cmp_is (pos m) (pos n) Greater (omega (arith, ints))) ∙ sym (nat_cmp-greater m n g)
  ]
]

pub int_cmp-neg : (m n : ℕ) → int_cmp (neg_ℤ (pos m)) (neg_ℤ (pos n)) ≡ nat_cmp n m
int_cmp-neg m n = elim (cases_order m n) [
  | inl e ↦ sym (int_cmp_is (neg_ℤ (pos m)) (neg_ℤ (pos n)) Equal (ap (λ k. neg_ℤ (pos k)) e)) ∙ sym (nat_cmp-equal n m (sym e))
  | inr h ↦ elim h [
    | inl l ↦ sym (int_cmp_is (neg_ℤ (pos m)) (neg_ℤ (pos n)) Greater (omega (arith, ints))) ∙ sym (nat_cmp-greater n m l)
    | inr g ↦ sym (int_cmp_is (neg_ℤ (pos m)) (neg_ℤ (pos n)) Less (omega (arith, ints))) ∙ sym (nat_cmp-less n m g)
  ]
]

-- numbers that are not negative
up_is : (a b : ℤ) → pos 0 ≤ℤ a → pos 0 <ℤ b → a *ℤ b ≡ pos (unsigned_abs a * unsigned_abs b)
up_is (pos a) (pos b) p q = refl
up_is (pos a) (negsuc b) p q = absurd (omega (arith, ints))
up_is (negsuc a) b p q = absurd (omega (arith, ints))

down_is : (a b : ℤ) → a <ℤ pos 0 → pos 0 <ℤ b → a *ℤ b ≡ neg_ℤ (pos (unsigned_abs a * unsigned_abs b))
down_is (pos a) b p q = absurd (omega (arith, ints))
down_is (negsuc a) (pos b) p q = refl
down_is (negsuc a) (negsuc b) p q = absurd (omega (arith, ints))

pub order_of-nonnegative : (x y : Rational) → IsLowest x → IsLowest y → pos 0 ≤ℤ x.top → pos 0 ≤ℤ y.top → order_of x y ≡ nat_cmp (unsigned_abs x.top * unsigned_abs y.bottom) (unsigned_abs y.top * unsigned_abs x.bottom)
unfolding order_of
order_of-nonnegative x y p q h k =
    ap₂ int_cmp (up_is x.top y.bottom h q.positive) (up_is y.top x.bottom k p.positive) ∙ int_cmp-pos (unsigned_abs x.top * unsigned_abs y.bottom) (unsigned_abs y.top * unsigned_abs x.bottom)

pub order_of-negative : (x y : Rational) → IsLowest x → IsLowest y → x.top <ℤ pos 0 → y.top <ℤ pos 0 → order_of x y ≡ nat_cmp (unsigned_abs y.top * unsigned_abs x.bottom) (unsigned_abs x.top * unsigned_abs y.bottom)
unfolding order_of
order_of-negative x y p q h k =
    ap₂ int_cmp (down_is x.top y.bottom h q.positive) (down_is y.top x.bottom k p.positive) ∙ int_cmp-neg (unsigned_abs x.top * unsigned_abs y.bottom) (unsigned_abs y.top * unsigned_abs x.bottom)

below_zero : (a b : ℤ) → a <ℤ pos 0 → pos 0 <ℤ b → (a *ℤ b) <ℤ pos 0
below_zero (pos a) b p q = absurd (omega (arith, ints))
below_zero (negsuc a) (pos zero) p q = absurd (omega (arith, ints))
below_zero (negsuc a) (pos (suc b)) p q = omega (arith, ints)
below_zero (negsuc a) (negsuc b) p q = absurd (omega (arith, ints))

not_below_zero : (a b : ℤ) → pos 0 ≤ℤ a → pos 0 <ℤ b → pos 0 ≤ℤ (a *ℤ b)
not_below_zero a b p q = rw (up_is a b p q) (omega (arith, ints))

pub order_of-less : (x y : Rational) → IsLowest x → IsLowest y → x.top <ℤ pos 0 → pos 0 ≤ℤ y.top → order_of x y ≡ Less
unfolding order_of
order_of-less x y p q h k =
    let left : (x.top *ℤ y.bottom) <ℤ pos 0 = below_zero x.top y.bottom h q.positive in
    let right : pos 0 ≤ℤ (y.top *ℤ x.bottom) = not_below_zero y.top x.bottom k p.positive in
    sym (int_cmp_is (x.top *ℤ y.bottom) (y.top *ℤ x.bottom) Less (omega (arith, ints)))

pub order_of-greater : (x y : Rational) → IsLowest x → IsLowest y → pos 0 ≤ℤ x.top → y.top <ℤ pos 0 → order_of x y ≡ Greater
unfolding order_of
order_of-greater x y p q h k =
    let left : pos 0 ≤ℤ (x.top *ℤ y.bottom) = not_below_zero x.top y.bottom h q.positive in
    let right : (y.top *ℤ x.bottom) <ℤ pos 0 = below_zero y.top x.bottom k p.positive in
    sym (int_cmp_is (x.top *ℤ y.bottom) (y.top *ℤ x.bottom) Greater (omega (arith, ints)))

-- ---- the order of exact values
pub int_cmp-less : (a b : ℤ) → a <ℤ b → int_cmp a b ≡ Less
int_cmp-less a b h = sym (int_cmp_is a b Less h)

pub int_cmp-equal : (a b : ℤ) → a ≡ b → int_cmp a b ≡ Equal
int_cmp-equal a b h = sym (int_cmp_is a b Equal h)

pub int_cmp-greater : (a b : ℤ) → b <ℤ a → int_cmp a b ≡ Greater
int_cmp-greater a b h = sym (int_cmp_is a b Greater h)

-- a positive factor on both sides, and a number added to both, change no comparison
ranked-mul : (a b k : ℤ) → pos 0 <ℤ k → (o : Ordering) → MatchOrdering o (a <ℤ b) (a ≡ b) (b <ℤ a) → MatchOrdering o ((a *ℤ k) <ℤ (b *ℤ k)) (a *ℤ k ≡ b *ℤ k) ((b *ℤ k) <ℤ (a *ℤ k))
ranked-mul a b k p Less h = *ℤ-<ℤ a b k p h
ranked-mul a b k p Equal h = ap (λ z. z *ℤ k) h
ranked-mul a b k p Greater h = *ℤ-<ℤ b a k p h

pub int_cmp-mul : (a b k : ℤ) → pos 0 <ℤ k → int_cmp (a *ℤ k) (b *ℤ k) ≡ int_cmp a b
int_cmp-mul a b k p = sym (int_cmp_is (a *ℤ k) (b *ℤ k) (int_cmp a b) (ranked-mul a b k p (int_cmp a b) (int_ranks a b)))

ranked-add : (a b k : ℤ) → (o : Ordering) → MatchOrdering o (a <ℤ b) (a ≡ b) (b <ℤ a) → MatchOrdering o ((a +ℤ k) <ℤ (b +ℤ k)) (a +ℤ k ≡ b +ℤ k) ((b +ℤ k) <ℤ (a +ℤ k))
ranked-add a b k Less h = omega (arith, ints)
ranked-add a b k Equal h = ap (λ z. z +ℤ k) h
ranked-add a b k Greater h = omega (arith, ints)

pub int_cmp-add : (a b k : ℤ) → int_cmp (a +ℤ k) (b +ℤ k) ≡ int_cmp a b
int_cmp-add a b k = sym (int_cmp_is (a +ℤ k) (b +ℤ k) (int_cmp a b) (ranked-add a b k (int_cmp a b) (int_ranks a b)))

-- to 0 a value stands as its numerator does
pub order_of-zero : (x : Rational) → order_of x (whole (pos 0)) ≡ int_cmp x.top (pos 0)
unfolding order_of
order_of-zero x = ap₂ int_cmp (*ℤ-one x.top) (zero-*ℤ x.bottom)

pub top_zero : (x : Rational) → IsLowest x → x.top ≡ pos 0 → x ≡ whole (pos 0)
top_zero x h e = sym (lowest-self x h) ∙ ap (λ t. lowest t x.bottom) e ∙ lowest-zero x.bottom (bottom_nonzero x h)

-- the sign of n / d is that of n where d is positive: the numerator in lowest terms has the sign of any other
pub lowest-sign : (n d : ℤ) → pos 0 <ℤ d → int_cmp (lowest n d).top (pos 0) ≡ int_cmp n (pos 0)
lowest-sign n d h =
    let x : Rational = lowest n d in
    let apart : d ≢ pos 0 = nonzero_of_pos d h in
    let low : IsLowest x = lowest-IsLowest n d apart in
    sym (int_cmp-mul x.top (pos 0) d h) ∙ ap₂ int_cmp (lowest-cross n d apart) (zero-*ℤ d ∙ sym (zero-*ℤ x.bottom)) ∙ int_cmp-mul n (pos 0) x.bottom low.positive

pub minus-sign : (x y : Rational) → IsLowest x → IsLowest y → int_cmp (minus x y).top (pos 0) ≡ int_cmp (x.top *ℤ y.bottom -ℤ y.top *ℤ x.bottom) (pos 0)
unfolding minus
minus-sign x y p q = lowest-sign (x.top *ℤ y.bottom -ℤ y.top *ℤ x.bottom) (x.bottom *ℤ y.bottom) (*ℤ_pos x.bottom y.bottom p.positive q.positive)

-- x stands to y as x - y to 0
difference_zero : (a b : ℤ) → int_cmp (a -ℤ b) (pos 0) ≡ int_cmp a b
difference_zero a b =
    let left : (a -ℤ b) +ℤ b ≡ a = omega (arith, ints) in
    let right : pos 0 +ℤ b ≡ b = omega (arith, ints) in
    sym (int_cmp-add (a -ℤ b) (pos 0) b) ∙ ap₂ int_cmp left right

pub order_of-minus : (x y : Rational) → IsLowest x → IsLowest y → order_of x y ≡ int_cmp (minus x y).top (pos 0)
unfolding order_of
order_of-minus x y p q = sym (minus-sign x y p q ∙ difference_zero (x.top *ℤ y.bottom) (y.top *ℤ x.bottom))

-- two values are equal exactly where they stand so
pub order_of-self : (x : Rational) → order_of x x ≡ Equal
unfolding order_of
order_of-self x = int_cmp-equal (x.top *ℤ x.bottom) (x.top *ℤ x.bottom) refl

scaled : (t b c m d e n f : ℤ) → t *ℤ (d *ℤ f) ≡ (m *ℤ n) *ℤ b → (t *ℤ c) *ℤ ((d *ℤ f) *ℤ (e *ℤ f)) ≡ (m *ℤ e) *ℤ ((n *ℤ f) *ℤ (b *ℤ c))
scaled t b c m d e n f h =
    let left : (t *ℤ c) *ℤ ((d *ℤ f) *ℤ (e *ℤ f)) ≡ (t *ℤ (d *ℤ f)) *ℤ (c *ℤ (e *ℤ f)) = simp products in
    let right : ((m *ℤ n) *ℤ b) *ℤ (c *ℤ (e *ℤ f)) ≡ (m *ℤ e) *ℤ ((n *ℤ f) *ℤ (b *ℤ c)) = simp products in
    left ∙ ap (λ v. v *ℤ (c *ℤ (e *ℤ f))) h ∙ right

scaled_back : (t b c m d e n f : ℤ) → t *ℤ (d *ℤ f) ≡ (m *ℤ n) *ℤ b → (t *ℤ c) *ℤ ((e *ℤ f) *ℤ (d *ℤ f)) ≡ (m *ℤ e) *ℤ ((n *ℤ f) *ℤ (c *ℤ b))
scaled_back t b c m d e n f h =
    let left : (t *ℤ c) *ℤ ((e *ℤ f) *ℤ (d *ℤ f)) ≡ (t *ℤ (d *ℤ f)) *ℤ (c *ℤ (e *ℤ f)) = simp products in
    let right : ((m *ℤ n) *ℤ b) *ℤ (c *ℤ (e *ℤ f)) ≡ (m *ℤ e) *ℤ ((n *ℤ f) *ℤ (c *ℤ b)) = simp products in
    left ∙ ap (λ v. v *ℤ (c *ℤ (e *ℤ f))) h ∙ right

-- the same added to both, and both times the same positive value
pub order_of-plus : (x y z : Rational) → IsLowest x → IsLowest y → IsLowest z → order_of (plus x z) (plus y z) ≡ order_of x y
order_of-plus x y z p q r =
    order_of-minus (plus x z) (plus y z) (plus-IsLowest x z p r) (plus-IsLowest y z q r)
    ∙ ap (λ t. int_cmp t.top (pos 0)) (minus-plus_both x y z p q r) ∙ sym (order_of-minus x y p q)

pub order_of-times : (x y z : Rational) → IsLowest x → IsLowest y → IsLowest z → pos 0 <ℤ z.top → order_of (times x z) (times y z) ≡ order_of x y
unfolding order_of
order_of-times x y z p q r h =
    let u : Rational = times x z in
    let w : Rational = times y z in
    let low_u : IsLowest u = times-IsLowest x z p r in
    let low_w : IsLowest w = times-IsLowest y z q r in
    let scale : ℤ = (x.bottom *ℤ z.bottom) *ℤ (y.bottom *ℤ z.bottom) in
    let common : ℤ = (z.top *ℤ z.bottom) *ℤ (u.bottom *ℤ w.bottom) in
    let scale_pos : pos 0 <ℤ scale = *ℤ_pos (x.bottom *ℤ z.bottom) (y.bottom *ℤ z.bottom) (*ℤ_pos x.bottom z.bottom p.positive r.positive) (*ℤ_pos y.bottom z.bottom q.positive r.positive) in
    let common_pos : pos 0 <ℤ common = *ℤ_pos (z.top *ℤ z.bottom) (u.bottom *ℤ w.bottom) (*ℤ_pos z.top z.bottom h r.positive) (*ℤ_pos u.bottom w.bottom low_u.positive low_w.positive) in
    let left : (u.top *ℤ w.bottom) *ℤ scale ≡ (x.top *ℤ y.bottom) *ℤ common = scaled u.top u.bottom w.bottom x.top x.bottom y.bottom z.top z.bottom (times-cross x z p r) in
    let right : (w.top *ℤ u.bottom) *ℤ scale ≡ (y.top *ℤ x.bottom) *ℤ common = scaled_back w.top w.bottom u.bottom y.top y.bottom x.bottom z.top z.bottom (times-cross y z q r) in
    sym (int_cmp-mul (u.top *ℤ w.bottom) (w.top *ℤ u.bottom) scale scale_pos) ∙ ap₂ int_cmp left right ∙ int_cmp-mul (x.top *ℤ y.bottom) (y.top *ℤ x.bottom) common common_pos
