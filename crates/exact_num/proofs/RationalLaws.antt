-- The laws of exact values: each number is one pair, and sums and products of such pairs obey the laws of arithmetic.
use Rattle.exact_num.proofs.Common.{◌≡◌, ◌≢◌, ℕ, zero, suc, ◌*◌, ◌/◌, ◌<◌, ℤ, pos, negsuc, neg_ℤ, ◌+ℤ◌, ◌-ℤ◌, ◌*ℤ◌, sym, refl, ap, ap₂, ◌∙◌, subst, arith, unsigned_abs, int_div, ◌<ℤ◌, ◌≤ℤ◌, ◌∣◌, ints, unsigned_abs-mul, dvd_antisymm, dvd-mul_left, div-mul_cancel, gcd_of, common, Rational, pair, IsLowest, signed_by, lowest, whole, negated, reciprocal, plus, minus, times, divided}
use Rattle.exact_num.proofs.GcdLaws.{gcd_of_comm, gcd_of-dvd_left, gcd_of-dvd_right, gcd_of_pos_right, coprime-div, dvd_from_coprime, gcd_of-one}
use Rattle.exact_num.proofs.Integers.{unsigned_abs-signed_by, unsigned_abs-int_div, unsigned_abs_pos, unsigned_abs-neg_ℤ, pos-unsigned_abs, int_div-mul, signed_by-mul, *ℤ_cancel, nonzero_of_pos, *ℤ_nonzero}
use Rattle.exact_num.proofs.Ring.{products, *ℤ_assoc, neg_ℤ-*ℤ, *ℤ-neg_ℤ}

same_pair : (x y : Rational) → x.top ≡ y.top → x.bottom ≡ y.bottom → x ≡ y
same_pair x y p q = ap₂ (λ (t b : ℤ). let r : Rational = record { top = t; bottom = b } in r) p q

-- the denominator of a value is not 0
pub bottom_nonzero : (x : Rational) → IsLowest x → x.bottom ≢ pos 0
bottom_nonzero x h = nonzero_of_pos x.bottom h.positive

-- ---- two pairs in lowest terms with equal cross products are one pair
bottoms_divide : (x y : Rational) → IsLowest x → x.top *ℤ y.bottom ≡ y.top *ℤ x.bottom → unsigned_abs x.bottom ∣ unsigned_abs y.bottom
bottoms_divide x y h e =
    let cross : unsigned_abs x.top * unsigned_abs y.bottom ≡ unsigned_abs y.top * unsigned_abs x.bottom
    = sym (unsigned_abs-mul x.top y.bottom) ∙ ap unsigned_abs e ∙ unsigned_abs-mul y.top x.bottom in
    let P : ℕ → Type 0 = λ n. unsigned_abs x.bottom ∣ n in
    dvd_from_coprime (unsigned_abs x.bottom) (unsigned_abs x.top) (unsigned_abs y.bottom) (gcd_of_comm (unsigned_abs x.bottom) (unsigned_abs x.top) ∙ h.coprime)
    (subst P (sym cross) (dvd-mul_left (unsigned_abs x.bottom) (unsigned_abs y.top)))

pub lowest_unique : (x y : Rational) → IsLowest x → IsLowest y → x.top *ℤ y.bottom ≡ y.top *ℤ x.bottom → x ≡ y
lowest_unique x y p q e =
    let sizes : unsigned_abs x.bottom ≡ unsigned_abs y.bottom = dvd_antisymm (bottoms_divide x y p e) (bottoms_divide y x q (sym e)) in
    let bottoms : x.bottom ≡ y.bottom = sym (pos-unsigned_abs x.bottom (omega (arith, ints, p.positive))) ∙ ap pos sizes ∙ pos-unsigned_abs y.bottom (omega (arith, ints, q.positive)) in
    same_pair x y (*ℤ_cancel x.top y.top y.bottom (bottom_nonzero y q) (e ∙ ap (λ d. y.top *ℤ d) bottoms)) bottoms

swap_middle : (a b c d : ℤ) → (a *ℤ b) *ℤ (c *ℤ d) ≡ (a *ℤ c) *ℤ (b *ℤ d)
swap_middle a b c d = simp products

-- ---- what `lowest` gives
pub lowest-top : (n d : ℤ) → (lowest n d).top *ℤ pos (gcd_of (unsigned_abs n) (unsigned_abs d)) ≡ signed_by d n
unfolding lowest
lowest-top n d =
    let g : ℕ = gcd_of (unsigned_abs n) (unsigned_abs d) in
    let P : ℕ → Type 0 = λ m. g ∣ m in
    int_div-mul (signed_by d n) g (subst P (sym (unsigned_abs-signed_by d n)) (gcd_of-dvd_left (unsigned_abs n) (unsigned_abs d)))

pub lowest-bottom : (n d : ℤ) → (lowest n d).bottom *ℤ pos (gcd_of (unsigned_abs n) (unsigned_abs d)) ≡ pos (unsigned_abs d)
unfolding lowest
lowest-bottom n d = ap pos (div-mul_cancel (gcd_of (unsigned_abs n) (unsigned_abs d)) (gcd_of-dvd_right (unsigned_abs n) (unsigned_abs d)))

gcd_apart : (n d : ℤ) → d ≢ pos 0 → pos (gcd_of (unsigned_abs n) (unsigned_abs d)) ≢ pos 0
gcd_apart n d h e =
    let above : 0 < gcd_of (unsigned_abs n) (unsigned_abs d) = gcd_of_pos_right (unsigned_abs n) (unsigned_abs d) (unsigned_abs_pos d h) in
    omega (arith, above, ap unsigned_abs e)

move_last : (a b c : ℤ) → (a *ℤ b) *ℤ c ≡ (a *ℤ c) *ℤ b
move_last a b c = simp products

-- the value of n / d: it times d is n
pub lowest-cross : (n d : ℤ) → d ≢ pos 0 → (lowest n d).top *ℤ d ≡ n *ℤ (lowest n d).bottom
lowest-cross n d h =
    let x : Rational = lowest n d in
    let g : ℤ = pos (gcd_of (unsigned_abs n) (unsigned_abs d)) in
    let left : (x.top *ℤ d) *ℤ g ≡ n *ℤ pos (unsigned_abs d) = move_last x.top d g ∙ ap (λ t. t *ℤ d) (lowest-top n d) ∙ signed_by-mul d n in
    let right : (n *ℤ x.bottom) *ℤ g ≡ n *ℤ pos (unsigned_abs d) = *ℤ_assoc n x.bottom g ∙ ap (λ t. n *ℤ t) (lowest-bottom n d) in
    *ℤ_cancel (x.top *ℤ d) (n *ℤ x.bottom) g (gcd_apart n d h) (left ∙ sym right)

factor_pos : (m g n : ℕ) → m * g ≡ n → 0 < n → 0 < m
factor_pos zero g n e h = omega arith
factor_pos (suc m) g n e h = omega arith

pub lowest-IsLowest : (n d : ℤ) → d ≢ pos 0 → IsLowest (lowest n d)
unfolding lowest
lowest-IsLowest n d h =
    let g : ℕ = gcd_of (unsigned_abs n) (unsigned_abs d) in
    let above : 0 < unsigned_abs d = unsigned_abs_pos d h in
    let sizes : unsigned_abs (int_div (signed_by d n) (pos g)) ≡ unsigned_abs n / g = unsigned_abs-int_div (signed_by d n) g ∙ ap (λ m. m / g) (unsigned_abs-signed_by d n) in
    let quotient : 0 < unsigned_abs d / g = factor_pos (unsigned_abs d / g) g (unsigned_abs d) (div-mul_cancel g (gcd_of-dvd_right (unsigned_abs n) (unsigned_abs d))) above in
    record {
      positive = omega (arith, ints);
      coprime = ap (λ m. gcd_of m (unsigned_abs d / g)) sizes ∙ coprime-div (unsigned_abs n) (unsigned_abs d) (gcd_of_pos_right (unsigned_abs n) (unsigned_abs d) above);
    }

-- the pair in lowest terms whose value times d is n
pub lowest_is : (n d : ℤ) (x : Rational) → d ≢ pos 0 → IsLowest x → x.top *ℤ d ≡ n *ℤ x.bottom → x ≡ lowest n d
lowest_is n d x h low e =
    let y : Rational = lowest n d in
    let left : (x.top *ℤ y.bottom) *ℤ d ≡ (n *ℤ x.bottom) *ℤ y.bottom = move_last x.top y.bottom d ∙ ap (λ t. t *ℤ y.bottom) e in
    let right : (y.top *ℤ x.bottom) *ℤ d ≡ (n *ℤ x.bottom) *ℤ y.bottom = move_last y.top x.bottom d ∙ ap (λ t. t *ℤ x.bottom) (lowest-cross n d h) ∙ move_last n y.bottom x.bottom in
    lowest_unique x y low (lowest-IsLowest n d h) (*ℤ_cancel (x.top *ℤ y.bottom) (y.top *ℤ x.bottom) d h (left ∙ sym right))

-- equal quotients are one value
pub lowest_same : (n d m e : ℤ) → d ≢ pos 0 → e ≢ pos 0 → n *ℤ e ≡ m *ℤ d → lowest n d ≡ lowest m e
lowest_same n d m e p q h =
    let x : Rational = lowest n d in
    let left : (x.top *ℤ e) *ℤ d ≡ (m *ℤ x.bottom) *ℤ d =
    move_last x.top e d ∙ ap (λ t. t *ℤ e) (lowest-cross n d p) ∙ move_last n x.bottom e ∙ ap (λ t. t *ℤ x.bottom) h ∙ move_last m d x.bottom in
    lowest_is m e x q (lowest-IsLowest n d p) (*ℤ_cancel (x.top *ℤ e) (m *ℤ x.bottom) d p left)

-- a common factor changes nothing
pub lowest-mul : (n d k : ℤ) → d ≢ pos 0 → k ≢ pos 0 → lowest (n *ℤ k) (d *ℤ k) ≡ lowest n d
lowest-mul n d k p q = lowest_same (n *ℤ k) (d *ℤ k) n d (*ℤ_nonzero d k p q) p (simp products)

-- a pair in lowest terms is its own value
pub lowest-self : (x : Rational) → IsLowest x → lowest x.top x.bottom ≡ x
lowest-self x h = sym (lowest_is x.top x.bottom x (bottom_nonzero x h) h refl)

-- ---- whole numbers, negatives, reciprocals
pub whole-IsLowest : (n : ℤ) → IsLowest (whole n)
whole-IsLowest n = record { positive = omega (arith, ints); coprime = gcd_of-one (unsigned_abs n) }

pub negated-IsLowest : (x : Rational) → IsLowest x → IsLowest (negated x)
negated-IsLowest x h = record { positive = h.positive; coprime = ap (λ m. gcd_of m (unsigned_abs x.bottom)) (unsigned_abs-neg_ℤ x.top) ∙ h.coprime }

pub reciprocal-IsLowest : (x : Rational) → IsLowest x → x.top ≢ pos 0 → IsLowest (reciprocal x)
reciprocal-IsLowest x h n =
    let above : 0 < unsigned_abs x.top = unsigned_abs_pos x.top n in
    record {
      positive = omega (arith, ints);
      coprime = ap (λ m. gcd_of m (unsigned_abs x.top)) (unsigned_abs-signed_by x.top x.bottom) ∙ gcd_of_comm (unsigned_abs x.bottom) (unsigned_abs x.top) ∙ h.coprime;
    }

-- ---- sums and products are in lowest terms, and times the denominators they are what they were
pub plus-IsLowest : (x y : Rational) → IsLowest x → IsLowest y → IsLowest (plus x y)
unfolding plus
plus-IsLowest x y p q = lowest-IsLowest (x.top *ℤ y.bottom +ℤ y.top *ℤ x.bottom) (x.bottom *ℤ y.bottom) (*ℤ_nonzero x.bottom y.bottom (bottom_nonzero x p) (bottom_nonzero y q))

pub plus-cross : (x y : Rational) → IsLowest x → IsLowest y → (plus x y).top *ℤ (x.bottom *ℤ y.bottom) ≡ (x.top *ℤ y.bottom +ℤ y.top *ℤ x.bottom) *ℤ (plus x y).bottom
unfolding plus
plus-cross x y p q = lowest-cross (x.top *ℤ y.bottom +ℤ y.top *ℤ x.bottom) (x.bottom *ℤ y.bottom) (*ℤ_nonzero x.bottom y.bottom (bottom_nonzero x p) (bottom_nonzero y q))

pub times-IsLowest : (x y : Rational) → IsLowest x → IsLowest y → IsLowest (times x y)
unfolding times
times-IsLowest x y p q = lowest-IsLowest (x.top *ℤ y.top) (x.bottom *ℤ y.bottom) (*ℤ_nonzero x.bottom y.bottom (bottom_nonzero x p) (bottom_nonzero y q))

pub times-cross : (x y : Rational) → IsLowest x → IsLowest y → (times x y).top *ℤ (x.bottom *ℤ y.bottom) ≡ (x.top *ℤ y.top) *ℤ (times x y).bottom
unfolding times
times-cross x y p q = lowest-cross (x.top *ℤ y.top) (x.bottom *ℤ y.bottom) (*ℤ_nonzero x.bottom y.bottom (bottom_nonzero x p) (bottom_nonzero y q))

-- a difference is a sum with the negative
pub minus-is_plus : (x y : Rational) → minus x y ≡ plus x (negated y)
unfolding minus plus
minus-is_plus x y = ap (λ t. lowest (x.top *ℤ y.bottom +ℤ t) (x.bottom *ℤ y.bottom)) (sym (neg_ℤ-*ℤ y.top x.bottom))

-- a quotient is a product with the reciprocal
pub divided-is_times : (x y : Rational) → IsLowest x → IsLowest y → y.top ≢ pos 0 → divided x y ≡ times x (reciprocal y)
unfolding divided times
divided-is_times x y p q n =
    let over : ℤ = pos (unsigned_abs y.top) in
    let apart : over ≢ pos 0 = nonzero_of_pos over (reciprocal-IsLowest y q n).positive in
    lowest_same (x.top *ℤ y.bottom) (x.bottom *ℤ y.top) (x.top *ℤ signed_by y.top y.bottom) (x.bottom *ℤ over)
    (*ℤ_nonzero x.bottom y.top (bottom_nonzero x p) n) (*ℤ_nonzero x.bottom over (bottom_nonzero x p) apart)
    (swap_middle x.top y.bottom x.bottom over ∙ ap (λ t. (x.top *ℤ x.bottom) *ℤ t) (sym (signed_by-mul y.top y.bottom)) ∙ sym (swap_middle x.top (signed_by y.top y.bottom) x.bottom y.top))

pub divided-IsLowest : (x y : Rational) → IsLowest x → IsLowest y → y.top ≢ pos 0 → IsLowest (divided x y)
divided-IsLowest x y p q n = rw (divided-is_times x y p q n) (times-IsLowest x (reciprocal y) p (reciprocal-IsLowest y q n))

pub divided-cross : (x y : Rational) → IsLowest x → y.top ≢ pos 0 → (divided x y).top *ℤ (x.bottom *ℤ y.top) ≡ (x.top *ℤ y.bottom) *ℤ (divided x y).bottom
unfolding divided
divided-cross x y p n = lowest-cross (x.top *ℤ y.bottom) (x.bottom *ℤ y.top) (*ℤ_nonzero x.bottom y.top (bottom_nonzero x p) n)

-- ---- what the code computes
-- a numerator and a denominator divided by their greatest common divisor
pub divided_out : (n d : ℤ) → pos 0 <ℤ d → pair (int_div n (common n d)) (int_div d (common n d)) ≡ lowest n d
unfolding lowest
divided_out n (pos d) h = refl
divided_out n (negsuc d) h = absurd (omega (arith, ints))

pub lowest-neg_ℤ : (n d : ℤ) → d ≢ pos 0 → lowest (neg_ℤ n) (neg_ℤ d) ≡ lowest n d
lowest-neg_ℤ n d h = lowest_same (neg_ℤ n) (neg_ℤ d) n d (λ e. h (omega (arith, ints))) h (neg_ℤ-*ℤ n d ∙ sym (*ℤ-neg_ℤ n d))

-- the common divisor with a denominator is positive
pub common_pos : (n d : ℤ) → pos 0 <ℤ d → pos 0 <ℤ common n d
common_pos n d h =
    let above : 0 < gcd_of (unsigned_abs n) (unsigned_abs d) = gcd_of_pos_right (unsigned_abs n) (unsigned_abs d) (unsigned_abs_pos d (nonzero_of_pos d h)) in
    omega (arith, ints)

-- the same from a divisor and quotients that were computed
pub divided_by : (n d g t b : ℤ) → pos 0 <ℤ d → g ≡ common n d → t ≡ int_div n g → b ≡ int_div d g → pair t b ≡ lowest n d
divided_by n d g t b h e p q = ap₂ pair (p ∙ ap (int_div n) e) (q ∙ ap (int_div d) e) ∙ divided_out n d h

top_neg : (n d : ℤ) → n <ℤ pos 0 → pair (neg_ℤ d) (neg_ℤ n) ≡ reciprocal (pair n d)
top_neg (pos n) d h = absurd (omega (arith, ints))
top_neg (negsuc n) d h = refl

top_pos : (n d : ℤ) → pos 0 ≤ℤ n → pair d n ≡ reciprocal (pair n d)
top_pos (pos n) d h = refl
top_pos (negsuc n) d h = absurd (omega (arith, ints))

pub reciprocal_of_neg : (x : Rational) → x.top <ℤ pos 0 → pair (neg_ℤ x.bottom) (neg_ℤ x.top) ≡ reciprocal x
reciprocal_of_neg x h = top_neg x.top x.bottom h

pub reciprocal_of_pos : (x : Rational) → pos 0 ≤ℤ x.top → pair x.bottom x.top ≡ reciprocal x
reciprocal_of_pos x h = top_pos x.top x.bottom h
