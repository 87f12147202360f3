-- What sums and products of fractions form, and that it is their value.
use Rattle.exact_num.proofs.Common.{◌≡◌, ◌≢◌, ℕ, zero, suc, ◌+◌, ◌-◌, ◌*◌, ◌<◌, ℤ, pos, negsuc, ◌+ℤ◌, ◌*ℤ◌, Bool, true, false, ◌&&◌, sym, refl, ap, ap₂, ◌∙◌, subst, inl, inr, arith, lit<, unsigned_abs, int_div, ◌<ℤ◌, ◌∣◌, cases_lt, cases_eq, ints, unsigned_abs-mul, dvd_trans, dvd_refl, dvd-mul_right, dvd-mul_left_of_dvd, dvd-add, dvd-sub, eq-one_of_dvd-one, one-dvd, common, sum_formed, difference_formed, product_formed, gcd_of, InRange, in_range, all_fit, Rational, IsLowest, pair, lowest, whole, negated, plus, times}
use Rattle.exact_num.proofs.GcdLaws.{gcd_of-mul_coprime, gcd_of_comm, gcd_of-dvd_left, gcd_of-dvd_right, gcd_of_pos_right, dvd-gcd_of, coprime-div, coprime-mul, mul-coprime, coprime_of_dvd, dvd_from_coprime, gcd_of-one, one-gcd_of}
use Rattle.exact_num.proofs.Integers.{unsigned_abs-int_div, int_div-mul, nonzero_of_pos, *ℤ_nonzero, *ℤ_pos}
use Rattle.exact_num.proofs.RationalLaws.{bottom_nonzero, lowest-mul, lowest_is, lowest-self, whole-IsLowest, common_pos}
use Rattle.exact_num.proofs.RangeLaws.{in_range-yes, in_range-neg_ℤ}
use Rattle.exact_num.proofs.Ring.{ring, products, *ℤ_assoc, +ℤ_comm, *ℤ-one, neg_ℤ-*ℤ}

-- ---- common divisors over ℕ and ℤ
-- what divides a sum and its first number divides its second
dvd_second : (d : ℕ) (x y : ℤ) → d ∣ unsigned_abs (x +ℤ y) → d ∣ unsigned_abs x → d ∣ unsigned_abs y
dvd_second d x y p q =
    let P : ℕ → Type 0 = λ m. d ∣ m in
    elim (cases_eq (unsigned_abs (x +ℤ y) + unsigned_abs x) (unsigned_abs y)) [
      | inl e ↦ subst P e (dvd-add d p q)
      | inr ne ↦
          elim (cases_lt (unsigned_abs x) (unsigned_abs (x +ℤ y))) [
            | inl lt ↦ let e : unsigned_abs (x +ℤ y) - unsigned_abs x ≡ unsigned_abs y = omega (arith, ints) in subst P e (dvd-sub d p q)
            | inr ge ↦ let e : unsigned_abs x - unsigned_abs (x +ℤ y) ≡ unsigned_abs y = omega (arith, ints) in subst P e (dvd-sub d q p)
          ]
    ]

dvd_first : (d : ℕ) (x y : ℤ) → d ∣ unsigned_abs (x +ℤ y) → d ∣ unsigned_abs y → d ∣ unsigned_abs x
dvd_first d x y p q =
    let P : ℕ → Type 0 = λ m. d ∣ m in
    dvd_second d y x (subst P (ap unsigned_abs (+ℤ_comm x y)) p) q

-- ---- the two parts of a pair without its common divisor
part_mul : (a b : ℤ) → int_div b (common a b) *ℤ common a b ≡ b
part_mul a b = int_div-mul b (gcd_of (unsigned_abs a) (unsigned_abs b)) (gcd_of-dvd_right (unsigned_abs a) (unsigned_abs b))

part_mul_left : (a b : ℤ) → int_div a (common a b) *ℤ common a b ≡ a
part_mul_left a b = int_div-mul a (gcd_of (unsigned_abs a) (unsigned_abs b)) (gcd_of-dvd_left (unsigned_abs a) (unsigned_abs b))

parts_coprime : (a b : ℤ) → pos 0 <ℤ b → gcd_of (unsigned_abs (int_div a (common a b))) (unsigned_abs (int_div b (common a b))) ≡ 1
parts_coprime a b h =
    let m : ℕ = unsigned_abs a in
    let n : ℕ = unsigned_abs b in
    let above : 0 < n = omega (arith, ints) in
    ap₂ gcd_of (unsigned_abs-int_div a (gcd_of m n)) (unsigned_abs-int_div b (gcd_of m n)) ∙ coprime-div m n (gcd_of_pos_right m n above)

-- a part divides its number
part_dvd_left : (a b : ℤ) → unsigned_abs (int_div a (common a b)) ∣ unsigned_abs a
part_dvd_left a b =
    let f : ℤ = int_div a (common a b) in
    let P : ℕ → Type 0 = λ m. unsigned_abs f ∣ m in
    subst P (sym (unsigned_abs-mul f (common a b)) ∙ ap unsigned_abs (part_mul_left a b)) (dvd-mul_right (unsigned_abs f) (unsigned_abs (common a b)))

part_dvd : (a b : ℤ) → unsigned_abs (int_div b (common a b)) ∣ unsigned_abs b
part_dvd a b =
    let f : ℤ = int_div b (common a b) in
    let P : ℕ → Type 0 = λ m. unsigned_abs f ∣ m in
    subst P (sym (unsigned_abs-mul f (common a b)) ∙ ap unsigned_abs (part_mul a b)) (dvd-mul_right (unsigned_abs f) (unsigned_abs (common a b)))

factor_pos : (f g : ℤ) → pos 0 <ℤ g → pos 0 <ℤ (f *ℤ g) → pos 0 <ℤ f
factor_pos (pos zero) (pos g) p q = absurd (omega (arith, ints))
factor_pos (pos (suc f)) (pos g) p q = omega (arith, ints)
factor_pos (pos f) (negsuc g) p q = absurd (omega (arith, ints))
factor_pos (negsuc f) (pos g) p q = absurd (omega (arith, ints))
factor_pos (negsuc f) (negsuc g) p q = absurd (omega (arith, ints))

part_pos : (a b : ℤ) → pos 0 <ℤ b → pos 0 <ℤ int_div b (common a b)
part_pos a b h =
    let P : ℤ → Type 0 = λ z. pos 0 <ℤ z in
    factor_pos (int_div b (common a b)) (common a b) (common_pos a b h) (subst P (sym (part_mul a b)) h)

-- ---- a sum
-- each number that a sum forms
abbrev pub sum_left : Rational → Rational → ℤ
sum_left x y = x.top *ℤ int_div y.bottom (common x.bottom y.bottom)

abbrev pub sum_right : Rational → Rational → ℤ
sum_right x y = y.top *ℤ int_div x.bottom (common x.bottom y.bottom)

abbrev pub sum_bottom : Rational → Rational → ℤ
sum_bottom x y = x.bottom *ℤ int_div y.bottom (common x.bottom y.bottom)

pub all_fit-sum_formed : (x y : Rational) → all_fit (sum_formed x y) ≡ (in_range (sum_left x y) && (in_range (sum_right x y) && (in_range (sum_left x y +ℤ sum_right x y) && (in_range (sum_bottom x y) && true))))
unfolding sum_formed all_fit
all_fit-sum_formed x y = refl

pub sum_bottom_pos : (x y : Rational) → IsLowest x → IsLowest y → pos 0 <ℤ sum_bottom x y
sum_bottom_pos x y p q = *ℤ_pos x.bottom (int_div y.bottom (common x.bottom y.bottom)) p.positive (part_pos x.bottom y.bottom q.positive)

cross_sum : (a b c d f h g : ℤ) → f *ℤ g ≡ d → h *ℤ g ≡ b → (a *ℤ f +ℤ c *ℤ h) *ℤ g ≡ a *ℤ d +ℤ c *ℤ b
cross_sum a b c d f h g p q =
    let split : (a *ℤ f +ℤ c *ℤ h) *ℤ g ≡ a *ℤ (f *ℤ g) +ℤ c *ℤ (h *ℤ g) = simp ring in
    split ∙ ap₂ (λ s t. a *ℤ s +ℤ c *ℤ t) p q

-- the numbers formed last are the sum
pub sum_value : (x y : Rational) → IsLowest x → IsLowest y → lowest (sum_left x y +ℤ sum_right x y) (sum_bottom x y) ≡ plus x y
unfolding plus
sum_value x y p q =
    let g : ℤ = common x.bottom y.bottom in
    let f : ℤ = int_div y.bottom g in
    let h : ℤ = int_div x.bottom g in
    let apart : g ≢ pos 0 = nonzero_of_pos g (common_pos x.bottom y.bottom q.positive) in
    sym (lowest-mul (sum_left x y +ℤ sum_right x y) (sum_bottom x y) g (nonzero_of_pos (sum_bottom x y) (sum_bottom_pos x y p q)) apart)
    ∙ ap₂ lowest (cross_sum x.top x.bottom y.top y.bottom f h g (part_mul x.bottom y.bottom) (part_mul_left x.bottom y.bottom))
    (*ℤ_assoc x.bottom f g ∙ ap (λ t. x.bottom *ℤ t) (part_mul x.bottom y.bottom))

-- a sum has no divisor in common with what one denominator has beside the other's: s/b + t/d over parts b' and d' of b and d
own_part : (a c f h b : ℤ) → gcd_of (unsigned_abs a) (unsigned_abs b) ≡ 1 → unsigned_abs h ∣ unsigned_abs b → gcd_of (unsigned_abs h) (unsigned_abs f) ≡ 1 → gcd_of (unsigned_abs (a *ℤ f +ℤ c *ℤ h)) (unsigned_abs h) ≡ 1
own_part a c f h b e w n =
    let p : ℕ = gcd_of (unsigned_abs (a *ℤ f +ℤ c *ℤ h)) (unsigned_abs h) in
    let P : ℕ → Type 0 = λ m. p ∣ m in
    let in_h : p ∣ unsigned_abs h = gcd_of-dvd_right (unsigned_abs (a *ℤ f +ℤ c *ℤ h)) (unsigned_abs h) in
    let in_second : p ∣ unsigned_abs (c *ℤ h) = subst P (sym (unsigned_abs-mul c h)) (dvd-mul_left_of_dvd p in_h (unsigned_abs c)) in
    let in_first : p ∣ unsigned_abs (a *ℤ f) = dvd_first p (a *ℤ f) (c *ℤ h) (gcd_of-dvd_left (unsigned_abs (a *ℤ f +ℤ c *ℤ h)) (unsigned_abs h)) in_second in
    let in_b : p ∣ unsigned_abs b = dvd_trans p in_h w in
    let apart : gcd_of p (unsigned_abs a) ≡ 1 = coprime_of_dvd (unsigned_abs b) (unsigned_abs a) p (unsigned_abs a) in_b (dvd_refl (unsigned_abs a)) (gcd_of_comm (unsigned_abs b) (unsigned_abs a) ∙ e) in
    let in_f : p ∣ unsigned_abs f = dvd_from_coprime p (unsigned_abs a) (unsigned_abs f) apart (subst P (unsigned_abs-mul a f) in_first) in
    eq-one_of_dvd-one (subst P n (dvd-gcd_of p (unsigned_abs h) (unsigned_abs f) in_h in_f))

-- so the sum's common divisor with its denominator is that with the denominators' common divisor
pub sum_divisor : (x y : Rational) → IsLowest x → IsLowest y → common (sum_left x y +ℤ sum_right x y) (common x.bottom y.bottom) ≡ common (sum_left x y +ℤ sum_right x y) (sum_bottom x y)
sum_divisor x y p q =
    let g : ℤ = common x.bottom y.bottom in
    let f : ℤ = int_div y.bottom g in
    let h : ℤ = int_div x.bottom g in
    let n : ℤ = sum_left x y +ℤ sum_right x y in
    let apart : gcd_of (unsigned_abs h) (unsigned_abs f) ≡ 1 = parts_coprime x.bottom y.bottom q.positive in
    let from_h : gcd_of (unsigned_abs n) (unsigned_abs h) ≡ 1 = own_part x.top y.top f h x.bottom p.coprime (part_dvd_left x.bottom y.bottom) apart in
    let swapped : gcd_of (unsigned_abs (sum_right x y +ℤ sum_left x y)) (unsigned_abs f) ≡ 1 = own_part y.top x.top h f y.bottom q.coprime (part_dvd x.bottom y.bottom) (gcd_of_comm (unsigned_abs f) (unsigned_abs h) ∙ apart) in
    let turn : sum_right x y +ℤ sum_left x y ≡ n = omega (arith, ints) in
    let from_f : gcd_of (unsigned_abs n) (unsigned_abs f) ≡ 1 = sym (ap (λ z. gcd_of (unsigned_abs z) (unsigned_abs f)) turn) ∙ swapped in
    let whole_bottom : unsigned_abs (sum_bottom x y) ≡ unsigned_abs g * (unsigned_abs h * unsigned_abs f) =
    unsigned_abs-mul x.bottom f ∙ ap (λ m. m * unsigned_abs f) (sym (ap unsigned_abs (part_mul_left x.bottom y.bottom)) ∙ unsigned_abs-mul h g) ∙ omega arith in
    ap pos (sym (ap (gcd_of (unsigned_abs n)) whole_bottom ∙ gcd_of-mul_coprime (unsigned_abs n) (unsigned_abs g) (unsigned_abs h * unsigned_abs f) (coprime-mul (unsigned_abs n) (unsigned_abs h) (unsigned_abs f) from_h from_f)))

-- ---- a product
abbrev pub product_top : Rational → Rational → ℤ
product_top x y = int_div x.top (common x.top y.bottom) *ℤ int_div y.top (common y.top x.bottom)

abbrev pub product_bottom : Rational → Rational → ℤ
product_bottom x y = int_div x.bottom (common y.top x.bottom) *ℤ int_div y.bottom (common x.top y.bottom)

pub all_fit-product_formed : (x y : Rational) → all_fit (product_formed x y) ≡ (in_range (product_top x y) && (in_range (product_bottom x y) && true))
unfolding product_formed all_fit
all_fit-product_formed x y = refl

four_factors : (a b c d g h : ℤ) → (a *ℤ c) *ℤ ((b *ℤ h) *ℤ (d *ℤ g)) ≡ ((a *ℤ g) *ℤ (c *ℤ h)) *ℤ (b *ℤ d)
four_factors a b c d g h = simp products

-- the numbers formed are in lowest terms
pub product-IsLowest : (x y : Rational) → IsLowest x → IsLowest y → IsLowest (pair (product_top x y) (product_bottom x y))
product-IsLowest x y p q =
    let g : ℤ = common x.top y.bottom in
    let h : ℤ = common y.top x.bottom in
    let a : ℤ = int_div x.top g in
    let b : ℤ = int_div x.bottom h in
    let c : ℤ = int_div y.top h in
    let d : ℤ = int_div y.bottom g in
    let a_b : gcd_of (unsigned_abs a) (unsigned_abs b) ≡ 1 = coprime_of_dvd (unsigned_abs x.top) (unsigned_abs x.bottom) (unsigned_abs a) (unsigned_abs b) (part_dvd_left x.top y.bottom) (part_dvd y.top x.bottom) p.coprime in
    let c_d : gcd_of (unsigned_abs c) (unsigned_abs d) ≡ 1 = coprime_of_dvd (unsigned_abs y.top) (unsigned_abs y.bottom) (unsigned_abs c) (unsigned_abs d) (part_dvd_left y.top x.bottom) (part_dvd x.top y.bottom) q.coprime in
    let a_d : gcd_of (unsigned_abs a) (unsigned_abs d) ≡ 1 = parts_coprime x.top y.bottom q.positive in
    let c_b : gcd_of (unsigned_abs c) (unsigned_abs b) ≡ 1 = parts_coprime y.top x.bottom p.positive in
    let all : gcd_of (unsigned_abs a * unsigned_abs c) (unsigned_abs b * unsigned_abs d) ≡ 1 =
    mul-coprime (unsigned_abs a) (unsigned_abs c) (unsigned_abs b * unsigned_abs d)
    (coprime-mul (unsigned_abs a) (unsigned_abs b) (unsigned_abs d) a_b a_d) (coprime-mul (unsigned_abs c) (unsigned_abs b) (unsigned_abs d) c_b c_d) in
    record {
      positive = *ℤ_pos b d (part_pos y.top x.bottom p.positive) (part_pos x.top y.bottom q.positive);
      coprime = ap₂ gcd_of (unsigned_abs-mul a c) (unsigned_abs-mul b d) ∙ all;
    }

-- and they are the product
pub product_value : (x y : Rational) → IsLowest x → IsLowest y → pair (product_top x y) (product_bottom x y) ≡ times x y
unfolding times
product_value x y p q =
    let g : ℤ = common x.top y.bottom in
    let h : ℤ = common y.top x.bottom in
    let a : ℤ = int_div x.top g in
    let b : ℤ = int_div x.bottom h in
    let c : ℤ = int_div y.top h in
    let d : ℤ = int_div y.bottom g in
    lowest_is (x.top *ℤ y.top) (x.bottom *ℤ y.bottom) (pair (product_top x y) (product_bottom x y))
    (*ℤ_nonzero x.bottom y.bottom (bottom_nonzero x p) (bottom_nonzero y q)) (product-IsLowest x y p q)
    (ap₂ (λ s t. (a *ℤ c) *ℤ (s *ℤ t)) (sym (part_mul y.top x.bottom)) (sym (part_mul x.top y.bottom))
    ∙ four_factors a b c d g h
    ∙ ap₂ (λ s t. (s *ℤ t) *ℤ (b *ℤ d)) (part_mul_left x.top y.bottom) (part_mul_left y.top x.bottom))

&&-true : (a : Bool) → (a && true) ≡ a
&&-true true = refl
&&-true false = refl

-- ---- where an operation stops, by the first number that doesn't fit
-- the part of a denominator that was computed by a divisor
pub sum_left_is : (x y : Rational) (g f : ℤ) → g ≡ common x.bottom y.bottom → f ≡ int_div y.bottom g → x.top *ℤ f ≡ sum_left x y
sum_left_is x y g f p q = ap (λ t. x.top *ℤ t) (q ∙ ap (int_div y.bottom) p)

pub sum_right_is : (x y : Rational) (g h : ℤ) → g ≡ common x.bottom y.bottom → h ≡ int_div x.bottom g → y.top *ℤ h ≡ sum_right x y
sum_right_is x y g h p q = ap (λ t. y.top *ℤ t) (q ∙ ap (int_div x.bottom) p)

pub sum_bottom_is : (x y : Rational) (g f : ℤ) → g ≡ common x.bottom y.bottom → f ≡ int_div y.bottom g → x.bottom *ℤ f ≡ sum_bottom x y
sum_bottom_is x y g f p q = ap (λ t. x.bottom *ℤ t) (q ∙ ap (int_div y.bottom) p)

pub sum_stops_left : (x y : Rational) → false ≡ in_range (sum_left x y) → all_fit (sum_formed x y) ≡ false
sum_stops_left x y l = all_fit-sum_formed x y ∙ rw (← l) refl

pub sum_stops_right : (x y : Rational) → true ≡ in_range (sum_left x y) → false ≡ in_range (sum_right x y) → all_fit (sum_formed x y) ≡ false
sum_stops_right x y l r = all_fit-sum_formed x y ∙ rw (← l, ← r) refl

pub sum_stops_top : (x y : Rational) → true ≡ in_range (sum_left x y) → true ≡ in_range (sum_right x y) → false ≡ in_range (sum_left x y +ℤ sum_right x y) → all_fit (sum_formed x y) ≡ false
sum_stops_top x y l r t = all_fit-sum_formed x y ∙ rw (← l, ← r, ← t) refl

pub sum_stops_bottom : (x y : Rational) → true ≡ in_range (sum_left x y) → true ≡ in_range (sum_right x y) → true ≡ in_range (sum_left x y +ℤ sum_right x y) → false ≡ in_range (sum_bottom x y) → all_fit (sum_formed x y) ≡ false
sum_stops_bottom x y l r t b = all_fit-sum_formed x y ∙ rw (← l, ← r, ← t, ← b) refl

pub sum_fits : (x y : Rational) → true ≡ in_range (sum_left x y) → true ≡ in_range (sum_right x y) → true ≡ in_range (sum_left x y +ℤ sum_right x y) → true ≡ in_range (sum_bottom x y) → true ≡ all_fit (sum_formed x y)
sum_fits x y l r t b = sym (all_fit-sum_formed x y ∙ rw (← l, ← r, ← t, ← b) refl)

pub product_stops_top : (x y : Rational) → false ≡ in_range (product_top x y) → all_fit (product_formed x y) ≡ false
product_stops_top x y t = all_fit-product_formed x y ∙ rw (← t) refl

pub product_stops_bottom : (x y : Rational) → true ≡ in_range (product_top x y) → false ≡ in_range (product_bottom x y) → all_fit (product_formed x y) ≡ false
product_stops_bottom x y t b = all_fit-product_formed x y ∙ rw (← t, ← b) refl

pub product_fits : (x y : Rational) → true ≡ in_range (product_top x y) → true ≡ in_range (product_bottom x y) → true ≡ all_fit (product_formed x y)
product_fits x y t b = sym (all_fit-product_formed x y ∙ rw (← t, ← b) refl)

-- ---- at denominators 1
whole_common : (d e : ℤ) → d ≡ pos 1 → common d e ≡ pos 1
whole_common d e p = ap (λ z. common z e) p ∙ ap pos (one-gcd_of (unsigned_abs e))

pub common_whole : (d e : ℤ) → e ≡ pos 1 → common d e ≡ pos 1
common_whole d e p = ap (common d) p ∙ ap pos (gcd_of-one (unsigned_abs d))

int_div-one : (a : ℤ) → int_div a (pos 1) ≡ a
int_div-one a = sym (*ℤ-one (int_div a (pos 1))) ∙ int_div-mul a 1 (one-dvd (unsigned_abs a))

over_one : (a d : ℤ) → d ≡ pos 1 → int_div a d ≡ a
over_one a d p = ap (int_div a) p ∙ int_div-one a

pub whole_left : (x y : Rational) → x.bottom ≡ pos 1 → y.bottom ≡ pos 1 → sum_left x y ≡ x.top
whole_left x y p q = ap (λ t. x.top *ℤ t) (over_one y.bottom (common x.bottom y.bottom) (whole_common x.bottom y.bottom p) ∙ q) ∙ *ℤ-one x.top

pub whole_right : (x y : Rational) → x.bottom ≡ pos 1 → y.bottom ≡ pos 1 → sum_right x y ≡ y.top
whole_right x y p q = ap (λ t. y.top *ℤ t) (over_one x.bottom (common x.bottom y.bottom) (whole_common x.bottom y.bottom p) ∙ p) ∙ *ℤ-one y.top

pub whole_bottom : (x y : Rational) → x.bottom ≡ pos 1 → y.bottom ≡ pos 1 → sum_bottom x y ≡ pos 1
whole_bottom x y p q = ap₂ ◌*ℤ◌ p (over_one y.bottom (common x.bottom y.bottom) (whole_common x.bottom y.bottom p) ∙ q)

pub whole_product_top : (x y : Rational) → x.bottom ≡ pos 1 → y.bottom ≡ pos 1 → product_top x y ≡ x.top *ℤ y.top
whole_product_top x y p q = ap₂ ◌*ℤ◌ (over_one x.top (common x.top y.bottom) (common_whole x.top y.bottom q)) (over_one y.top (common y.top x.bottom) (common_whole y.top x.bottom p))

pub whole_product_bottom : (x y : Rational) → x.bottom ≡ pos 1 → y.bottom ≡ pos 1 → product_bottom x y ≡ pos 1
whole_product_bottom x y p q = ap₂ ◌*ℤ◌ (over_one x.bottom (common y.top x.bottom) (common_whole y.top x.bottom p) ∙ p) (over_one y.bottom (common x.top y.bottom) (common_whole x.top y.bottom q) ∙ q)

-- a sum of whole numbers: one number can be outside the range
pub whole_sum_fits : (x y : Rational) → InRange x.top → InRange y.top → x.bottom ≡ pos 1 → y.bottom ≡ pos 1 → all_fit (sum_formed x y) ≡ in_range (x.top +ℤ y.top)
whole_sum_fits x y h k p q =
    all_fit-sum_formed x y
    ∙ rw (whole_left x y p q, whole_right x y p q, whole_bottom x y p q, in_range-yes x.top h, in_range-yes y.top k, in_range-yes (pos 1) (lit< tt)) (&&-true (in_range (x.top +ℤ y.top)))

pub whole_sum_value : (x y : Rational) → IsLowest x → IsLowest y → x.bottom ≡ pos 1 → y.bottom ≡ pos 1 → whole (x.top +ℤ y.top) ≡ plus x y
whole_sum_value x y h k p q =
    sym (lowest-self (whole (x.top +ℤ y.top)) (whole-IsLowest (x.top +ℤ y.top)))
    ∙ sym (ap₂ lowest (ap₂ ◌+ℤ◌ (whole_left x y p q) (whole_right x y p q)) (whole_bottom x y p q)) ∙ sum_value x y h k

pub whole_product_fits : (x y : Rational) → x.bottom ≡ pos 1 → y.bottom ≡ pos 1 → all_fit (product_formed x y) ≡ in_range (x.top *ℤ y.top)
whole_product_fits x y p q =
    all_fit-product_formed x y ∙ rw (whole_product_top x y p q, whole_product_bottom x y p q, in_range-yes (pos 1) (lit< tt)) (&&-true (in_range (x.top *ℤ y.top)))

pub whole_product_value : (x y : Rational) → IsLowest x → IsLowest y → x.bottom ≡ pos 1 → y.bottom ≡ pos 1 → whole (x.top *ℤ y.top) ≡ times x y
whole_product_value x y h k p q = sym (ap₂ pair (whole_product_top x y p q) (whole_product_bottom x y p q)) ∙ product_value x y h k

-- ---- differences
-- a difference forms what the sum with the negative does, up to the sign of its right part
pub difference_fits : (x y : Rational) → all_fit (sum_formed x (negated y)) ≡ all_fit (difference_formed x y)
unfolding sum_formed difference_formed all_fit
difference_fits x y =
    let g : ℤ = common x.bottom y.bottom in
    let h : ℤ = int_div x.bottom g in
    rw (neg_ℤ-*ℤ y.top h, in_range-neg_ℤ (y.top *ℤ h)) refl

-- the part of a by a computed divisor
pub part_by : (a g h p : ℤ) → g ≡ h → p ≡ int_div a g → p ≡ int_div a h
part_by a g h p e q = q ∙ ap (int_div a) e
