-- The laws of arithmetic for exact values.
use Rattle.exact_num.proofs.Common.{◌≡◌, ◌≢◌, ℤ, pos, neg_ℤ, ◌+ℤ◌, ◌*ℤ◌, sym, refl, ap, ap₂, ◌∙◌, Rational, IsLowest, lowest, whole, negated, plus, minus, times, divided}
use Rattle.exact_num.proofs.Integers.{*ℤ_nonzero}
use Rattle.exact_num.proofs.RationalLaws.{bottom_nonzero, lowest_same, lowest_is, lowest-cross, lowest-IsLowest, lowest-mul, lowest-self, whole-IsLowest, negated-IsLowest, plus-IsLowest, plus-cross, times-IsLowest, times-cross, minus-is_plus, divided-cross, divided-IsLowest}
use Rattle.exact_num.proofs.Ring.{ring, products, *ℤ_comm, *ℤ_assoc, *ℤ-one, zero-*ℤ, +ℤ-zero, +ℤ_comm, neg_ℤ-*ℤ, neg_ℤ-+ℤ, +ℤ-neg_ℤ}

-- ---- sums and products of values that are known as quotients n/d and m/e
sum_cross : (t b n d u c m e : ℤ) → t *ℤ d ≡ n *ℤ b → u *ℤ e ≡ m *ℤ c → (t *ℤ c +ℤ u *ℤ b) *ℤ (d *ℤ e) ≡ (n *ℤ e +ℤ m *ℤ d) *ℤ (b *ℤ c)
sum_cross t b n d u c m e p q =
    let left : (t *ℤ c +ℤ u *ℤ b) *ℤ (d *ℤ e) ≡ (t *ℤ d) *ℤ (c *ℤ e) +ℤ (u *ℤ e) *ℤ (b *ℤ d) = simp ring in
    let right : (n *ℤ b) *ℤ (c *ℤ e) +ℤ (m *ℤ c) *ℤ (b *ℤ d) ≡ (n *ℤ e +ℤ m *ℤ d) *ℤ (b *ℤ c) = simp ring in
    left ∙ ap₂ (λ v w. v *ℤ (c *ℤ e) +ℤ w *ℤ (b *ℤ d)) p q ∙ right

product_cross : (t b n d u c m e : ℤ) → t *ℤ d ≡ n *ℤ b → u *ℤ e ≡ m *ℤ c → (t *ℤ u) *ℤ (d *ℤ e) ≡ (n *ℤ m) *ℤ (b *ℤ c)
product_cross t b n d u c m e p q =
    let left : (t *ℤ u) *ℤ (d *ℤ e) ≡ (t *ℤ d) *ℤ (u *ℤ e) = simp products in
    let right : (n *ℤ b) *ℤ (m *ℤ c) ≡ (n *ℤ m) *ℤ (b *ℤ c) = simp products in
    left ∙ ap₂ ◌*ℤ◌ p q ∙ right

pub plus_of : (x y : Rational) (n d m e : ℤ) → IsLowest x → IsLowest y → d ≢ pos 0 → e ≢ pos 0 → x.top *ℤ d ≡ n *ℤ x.bottom → y.top *ℤ e ≡ m *ℤ y.bottom → plus x y ≡ lowest (n *ℤ e +ℤ m *ℤ d) (d *ℤ e)
unfolding plus
plus_of x y n d m e p q h k s t =
    lowest_same (x.top *ℤ y.bottom +ℤ y.top *ℤ x.bottom) (x.bottom *ℤ y.bottom) (n *ℤ e +ℤ m *ℤ d) (d *ℤ e)
    (*ℤ_nonzero x.bottom y.bottom (bottom_nonzero x p) (bottom_nonzero y q)) (*ℤ_nonzero d e h k)
    (sum_cross x.top x.bottom n d y.top y.bottom m e s t)

pub times_of : (x y : Rational) (n d m e : ℤ) → IsLowest x → IsLowest y → d ≢ pos 0 → e ≢ pos 0 → x.top *ℤ d ≡ n *ℤ x.bottom → y.top *ℤ e ≡ m *ℤ y.bottom → times x y ≡ lowest (n *ℤ m) (d *ℤ e)
unfolding times
times_of x y n d m e p q h k s t =
    lowest_same (x.top *ℤ y.top) (x.bottom *ℤ y.bottom) (n *ℤ m) (d *ℤ e)
    (*ℤ_nonzero x.bottom y.bottom (bottom_nonzero x p) (bottom_nonzero y q)) (*ℤ_nonzero d e h k)
    (product_cross x.top x.bottom n d y.top y.bottom m e s t)

-- ---- order and grouping
pub plus_comm : (x y : Rational) → plus x y ≡ plus y x
unfolding plus
plus_comm x y = ap₂ lowest (+ℤ_comm (x.top *ℤ y.bottom) (y.top *ℤ x.bottom)) (*ℤ_comm x.bottom y.bottom)

pub times_comm : (x y : Rational) → times x y ≡ times y x
unfolding times
times_comm x y = ap₂ lowest (*ℤ_comm x.top y.top) (*ℤ_comm x.bottom y.bottom)

pub plus_assoc : (x y z : Rational) → IsLowest x → IsLowest y → IsLowest z → plus (plus x y) z ≡ plus x (plus y z)
plus_assoc x y z p q r =
    let xb = bottom_nonzero x p in
    let yb = bottom_nonzero y q in
    let zb = bottom_nonzero z r in
    let left = plus_of (plus x y) z (x.top *ℤ y.bottom +ℤ y.top *ℤ x.bottom) (x.bottom *ℤ y.bottom) z.top z.bottom (plus-IsLowest x y p q) r (*ℤ_nonzero x.bottom y.bottom xb yb) zb (plus-cross x y p q) refl in
    let right = plus_of x (plus y z) x.top x.bottom (y.top *ℤ z.bottom +ℤ z.top *ℤ y.bottom) (y.bottom *ℤ z.bottom) p (plus-IsLowest y z q r) xb (*ℤ_nonzero y.bottom z.bottom yb zb) refl (plus-cross y z q r) in
    left ∙ ap₂ lowest (simp ring) (simp products) ∙ sym right

pub times_assoc : (x y z : Rational) → IsLowest x → IsLowest y → IsLowest z → times (times x y) z ≡ times x (times y z)
times_assoc x y z p q r =
    let xb = bottom_nonzero x p in
    let yb = bottom_nonzero y q in
    let zb = bottom_nonzero z r in
    let left = times_of (times x y) z (x.top *ℤ y.top) (x.bottom *ℤ y.bottom) z.top z.bottom (times-IsLowest x y p q) r (*ℤ_nonzero x.bottom y.bottom xb yb) zb (times-cross x y p q) refl in
    let right = times_of x (times y z) x.top x.bottom (y.top *ℤ z.top) (y.bottom *ℤ z.bottom) p (times-IsLowest y z q r) xb (*ℤ_nonzero y.bottom z.bottom yb zb) refl (times-cross y z q r) in
    left ∙ ap₂ lowest (simp products) (simp products) ∙ sym right

pub plus_left_comm : (x y z : Rational) → IsLowest x → IsLowest y → IsLowest z → plus x (plus y z) ≡ plus y (plus x z)
plus_left_comm x y z p q r = sym (plus_assoc x y z p q r) ∙ ap (λ t. plus t z) (plus_comm x y) ∙ plus_assoc y x z q p r

-- a product with a sum
pub times-plus : (x y z : Rational) → IsLowest x → IsLowest y → IsLowest z → times x (plus y z) ≡ plus (times x y) (times x z)
times-plus x y z p q r =
    let xb = bottom_nonzero x p in
    let yb = bottom_nonzero y q in
    let zb = bottom_nonzero z r in
    let over : ℤ = x.bottom *ℤ (y.bottom *ℤ z.bottom) in
    let under : ℤ = x.top *ℤ (y.top *ℤ z.bottom +ℤ z.top *ℤ y.bottom) in
    let left = times_of x (plus y z) x.top x.bottom (y.top *ℤ z.bottom +ℤ z.top *ℤ y.bottom) (y.bottom *ℤ z.bottom) p (plus-IsLowest y z q r) xb (*ℤ_nonzero y.bottom z.bottom yb zb) refl (plus-cross y z q r) in
    let right = plus_of (times x y) (times x z) (x.top *ℤ y.top) (x.bottom *ℤ y.bottom) (x.top *ℤ z.top) (x.bottom *ℤ z.bottom) (times-IsLowest x y p q) (times-IsLowest x z p r)
    (*ℤ_nonzero x.bottom y.bottom xb yb) (*ℤ_nonzero x.bottom z.bottom xb zb) (times-cross x y p q) (times-cross x z p r) in
    left ∙ sym (lowest-mul under over x.bottom (*ℤ_nonzero x.bottom (y.bottom *ℤ z.bottom) xb (*ℤ_nonzero y.bottom z.bottom yb zb)) xb) ∙ ap₂ lowest (simp ring) (simp products) ∙ sym right

-- ---- 0, 1 and negatives
pub plus-zero : (x : Rational) → IsLowest x → plus x (whole (pos 0)) ≡ x
unfolding plus
plus-zero x h = ap₂ lowest (ap₂ ◌+ℤ◌ (*ℤ-one x.top) (zero-*ℤ x.bottom) ∙ +ℤ-zero x.top) (*ℤ-one x.bottom) ∙ lowest-self x h

-- the value of 0/d
pub lowest-zero : (d : ℤ) → d ≢ pos 0 → lowest (pos 0) d ≡ whole (pos 0)
lowest-zero d h = sym (lowest_is (pos 0) d (whole (pos 0)) h (whole-IsLowest (pos 0)) (zero-*ℤ d))

pub plus-negated : (x : Rational) → IsLowest x → plus x (negated x) ≡ whole (pos 0)
unfolding plus
plus-negated x h =
    ap (λ t. lowest (x.top *ℤ x.bottom +ℤ t) (x.bottom *ℤ x.bottom)) (neg_ℤ-*ℤ x.top x.bottom)
    ∙ ap (λ t. lowest t (x.bottom *ℤ x.bottom)) (+ℤ-neg_ℤ (x.top *ℤ x.bottom))
    ∙ lowest-zero (x.bottom *ℤ x.bottom) (*ℤ_nonzero x.bottom x.bottom (bottom_nonzero x h) (bottom_nonzero x h))

-- what was taken away and added again
pub minus-plus : (x y : Rational) → IsLowest x → IsLowest y → plus (minus x y) y ≡ x
minus-plus x y p q =
    ap (λ t. plus t y) (minus-is_plus x y) ∙ plus_assoc x (negated y) y p (negated-IsLowest y q) q
    ∙ ap (plus x) (plus_comm (negated y) y ∙ plus-negated y q) ∙ plus-zero x p

pub lowest_negated : (n d : ℤ) → d ≢ pos 0 → negated (lowest n d) ≡ lowest (neg_ℤ n) d
lowest_negated n d h =
    let x : Rational = lowest n d in
    lowest_is (neg_ℤ n) d (negated x) h (negated-IsLowest x (lowest-IsLowest n d h)) (neg_ℤ-*ℤ x.top d ∙ ap neg_ℤ (lowest-cross n d h) ∙ sym (neg_ℤ-*ℤ n x.bottom))

pub negated-plus : (x y : Rational) → IsLowest x → IsLowest y → negated (plus x y) ≡ plus (negated x) (negated y)
unfolding plus
negated-plus x y p q =
    lowest_negated (x.top *ℤ y.bottom +ℤ y.top *ℤ x.bottom) (x.bottom *ℤ y.bottom) (*ℤ_nonzero x.bottom y.bottom (bottom_nonzero x p) (bottom_nonzero y q))
    ∙ ap (λ t. lowest t (x.bottom *ℤ y.bottom)) (neg_ℤ-+ℤ (x.top *ℤ y.bottom) (y.top *ℤ x.bottom) ∙ ap₂ ◌+ℤ◌ (sym (neg_ℤ-*ℤ x.top y.bottom)) (sym (neg_ℤ-*ℤ y.top x.bottom)))

-- the same added to both
pub minus-plus_both : (x y z : Rational) → IsLowest x → IsLowest y → IsLowest z → minus (plus x z) (plus y z) ≡ minus x y
minus-plus_both x y z p q r =
    let m : Rational = negated y in
    let n : Rational = negated z in
    let low_m : IsLowest m = negated-IsLowest y q in
    let low_n : IsLowest n = negated-IsLowest z r in
    minus-is_plus (plus x z) (plus y z)
    ∙ ap (plus (plus x z)) (negated-plus y z q r)
    ∙ plus_assoc x z (plus m n) p r (plus-IsLowest m n low_m low_n)
    ∙ ap (plus x) (plus_left_comm z m n r low_m low_n ∙ ap (plus m) (plus-negated z r) ∙ plus-zero m low_m)
    ∙ sym (minus-is_plus x y)

-- what was divided and multiplied again
pub divided-times : (x y : Rational) → IsLowest x → IsLowest y → y.top ≢ pos 0 → times (divided x y) y ≡ x
divided-times x y p q n =
    let xb = bottom_nonzero x p in
    let yb = bottom_nonzero y q in
    let both : ℤ = y.bottom *ℤ y.top in
    times_of (divided x y) y (x.top *ℤ y.bottom) (x.bottom *ℤ y.top) y.top y.bottom (divided-IsLowest x y p q n) q (*ℤ_nonzero x.bottom y.top xb n) yb (divided-cross x y p n) refl
    ∙ ap₂ lowest (*ℤ_assoc x.top y.bottom y.top) (simp products)
    ∙ lowest-mul x.top x.bottom both xb (*ℤ_nonzero y.bottom y.top yb n) ∙ lowest-self x p
