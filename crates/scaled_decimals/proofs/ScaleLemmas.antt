-- A number of which the first digits are kept, times and over powers of ten.
use Rattle.scaled_decimals.proofs.Common.{◌≡◌, ℕ, zero, suc, ◌+◌, ◌-◌, ◌*◌, ◌/◌, ◌%◌, ◌^◌, ◌<◌, ◌≤◌, pos, true, false, Bool, not, eqb, ltb, pow-add, sym, refl, ap, ap₂, ◌∙◌, inl, inr, arith, Ok, Err, ◌⊎◌, cases_lt, nat_tests, pow-suc, mul_assoc, mul_comm, add_comm, mul-le-mul_right, mul-le-mul_left, div-add-mod', ◌&&◌, ◌||◌, TooLarge, Head, read_ratio, with_sign, IsHead, IsKept}
use Rattle.scaled_decimals.proofs.DigitLemmas.{ten_pos, ten_mono}
use Rattle.scaled_decimals.proofs.HeadLemmas.{IsHead-whole}
use Rattle.scaled_decimals.proofs.RatioLemmas.{nearest_is, ratio_above, ratio_within, read_ratio-scale, parts_above, parts_just_above, parts_within, parts_just_within, parts_down, parts_up}

pub with_sign-zero : (negative : Bool) → with_sign negative 0 ≡ pos 0
with_sign-zero true = refl
with_sign-zero false = refl

-- no digit is left out of a small head
pub no-dropped : (h : Head) (m : ℕ) → h.value < 10 ^ 36 → IsHead h m → h.dropped ≡ 0
no-dropped h m small is =
    elim (cases_lt 0 h.dropped) [ inl some ↦ let big = is.full some in absurd (omega arith) | inr none ↦ omega arith ]

-- ---- times a power of ten
pub raised_zero : (negative : Bool) (h : Head) (m a : ℕ) → h.value ≡ 0 → IsHead h m → read_ratio negative (m * 10 ^ a) (10 ^ h.dropped) ≡ Ok (pos 0, false)
raised_zero negative h m a e is =
    let none = no-dropped h m (omega arith) is in
    let whole = IsHead-whole h m none is in
    let one : 10 ^ h.dropped ≡ 1 = ap (λ k. 10 ^ k) none in
    let n : m * 10 ^ a ≡ 0 * 10 ^ a = ap (λ k. k * 10 ^ a) (whole ∙ e) in
    ratio_within negative (m * 10 ^ a) (10 ^ h.dropped) 0 true (omega arith) (nearest_is 0 (m * 10 ^ a) (10 ^ h.dropped) (omega arith) (omega arith) (omega arith)) (grind (arith, nat_tests))
    ∙ ap (λ z. Ok (z, false)) (with_sign-zero negative)

pub raised_above : (negative : Bool) (h : Head) (m a : ℕ) → 10 ^ 24 < h.value * 10 ^ a → IsHead h m → read_ratio negative (m * 10 ^ a) (10 ^ h.dropped) ≡ Err TooLarge
raised_above negative h m a big is =
    let first : h.value * 10 ^ h.dropped ≤ m = omega (arith, is.digits) in
    let all : h.value * 10 ^ h.dropped * 10 ^ a ≤ m * 10 ^ a = mul-le-mul_right (10 ^ a) first in
    let much : suc (10 ^ 24) * 10 ^ h.dropped ≤ h.value * 10 ^ a * 10 ^ h.dropped = mul-le-mul_right (10 ^ h.dropped) big in
    let some = ten_pos h.dropped in
    ratio_above negative (m * 10 ^ a) (10 ^ h.dropped) (omega arith)

pub raised_exact : (negative : Bool) (h : Head) (m a : ℕ) → h.value * 10 ^ a ≤ 10 ^ 24 → IsHead h m → read_ratio negative (m * 10 ^ a) (10 ^ h.dropped) ≡ Ok (with_sign negative (h.value * 10 ^ a), false)
raised_exact negative h m a small is =
    let some = mul-le-mul_left h.value (ten_pos a) in
    let none = no-dropped h m (omega arith) is in
    let whole = IsHead-whole h m none is in
    let one : 10 ^ h.dropped ≡ 1 = ap (λ k. 10 ^ k) none in
    let n : m * 10 ^ a ≡ h.value * 10 ^ a = ap (λ k. k * 10 ^ a) whole in
    let q : h.value * 10 ^ a * 10 ^ h.dropped ≡ h.value * 10 ^ a * 1 = ap (λ k. h.value * 10 ^ a * k) one in
    ratio_within negative (m * 10 ^ a) (10 ^ h.dropped) (h.value * 10 ^ a) true (omega arith) (nearest_is (h.value * 10 ^ a) (m * 10 ^ a) (10 ^ h.dropped) (omega arith) (omega arith) (omega arith)) (grind (arith, nat_tests))

pub far-above : (v a : ℕ) → 0 < v → 24 < a → 10 ^ 24 < v * 10 ^ a
far-above v a some far =
    let least : 10 ^ 25 ≤ 10 ^ a = ten_mono 25 a far in
    let more : 1 * 10 ^ a ≤ v * 10 ^ a = mul-le-mul_right (10 ^ a) some in
    omega arith

pub near-above : (v a : ℕ) → a ≤ 24 → 10 ^ (24 - a) < v → 10 ^ 24 < v * 10 ^ a
near-above v a near big =
    let whole : 10 ^ ((24 - a) + a) ≡ 10 ^ (24 - a) * 10 ^ a = pow-add 10 (24 - a) a in
    let exponent : (24 - a) + a ≡ 24 = omega arith in
    let all : 10 ^ ((24 - a) + a) ≡ 10 ^ 24 = ap (λ k. 10 ^ k) exponent in
    let more : suc (10 ^ (24 - a)) * 10 ^ a ≤ v * 10 ^ a = mul-le-mul_right (10 ^ a) big in
    let some = ten_pos a in
    omega arith

pub near-within : (v a : ℕ) → a ≤ 24 → v ≤ 10 ^ (24 - a) → v * 10 ^ a ≤ 10 ^ 24
near-within v a near small =
    let whole : 10 ^ ((24 - a) + a) ≡ 10 ^ (24 - a) * 10 ^ a = pow-add 10 (24 - a) a in
    let exponent : (24 - a) + a ≡ 24 = omega arith in
    let all : 10 ^ ((24 - a) + a) ≡ 10 ^ 24 = ap (λ k. 10 ^ k) exponent in
    let more : v * 10 ^ a ≤ 10 ^ (24 - a) * 10 ^ a = mul-le-mul_right (10 ^ a) small in
    omega arith

-- ---- over a power of ten
zero-eqb : (m : ℕ) → eqb m 0 ≡ eqb 0 m
zero-eqb m = grind (arith, nat_tests)

pub lowered_far : (negative : Bool) (h : Head) (m b : ℕ) (none : Bool) → h.value < 10 ^ 37 → 38 < b → IsHead h m → eqb m 0 ≡ none → read_ratio negative m (10 ^ h.dropped * 10 ^ b) ≡ Ok (pos 0, not none)
lowered_far negative h m b none small far is e =
    let least : 10 ^ 39 ≤ 10 ^ b = ten_mono 39 b far in
    let much : 10 ^ h.dropped * 10 ^ 39 ≤ 10 ^ h.dropped * 10 ^ b = mul-le-mul_left (10 ^ h.dropped) least in
    let most : suc h.value * 10 ^ h.dropped ≤ 10 ^ 37 * 10 ^ h.dropped = mul-le-mul_right (10 ^ h.dropped) small in
    let below : m < 10 ^ 37 * 10 ^ h.dropped = omega (arith, is.digits, is.short) in
    let some = ten_pos h.dropped in
    let none-of : 0 * (10 ^ h.dropped * 10 ^ b) ≡ 0 = omega arith in
    ratio_within negative m (10 ^ h.dropped * 10 ^ b) 0 none (omega arith) (nearest_is 0 m (10 ^ h.dropped * 10 ^ b) (omega arith) (omega arith) (omega arith)) (ap (λ z. eqb z m) none-of ∙ sym (zero-eqb m) ∙ e)
    ∙ ap (λ z. Ok (z, not none)) (with_sign-zero negative)

-- a head of 0 is all of the number, and any other isn't 0
pub nonzero-head : (h : Head) (m : ℕ) → (h.value ≡ 0 → ⊥) → IsHead h m → eqb m 0 ≡ eqb h.value 0
nonzero-head h m some is =
    let least : 1 * 10 ^ h.dropped ≤ h.value * 10 ^ h.dropped = mul-le-mul_right (10 ^ h.dropped) (omega arith) in
    let pos = ten_pos h.dropped in
    let big : 0 < m = omega (arith, is.digits) in
    grind (arith, nat_tests)

pub zero-head : (h : Head) (m : ℕ) → h.value ≡ 0 → IsHead h m → (m ≡ 0) × (h.rest ≡ false)
zero-head h m e is =
    let none = no-dropped h m (omega arith) is in
    let one : 10 ^ h.dropped ≡ 1 = ap (λ k. 10 ^ k) none in
    let short = is.short in
    let tail : is.tail ≡ 0 = omega arith in
    (IsHead-whole h m none is ∙ e, is.rest ∙ ap (λ t. not (eqb t 0)) tail)

zero-both : (r d t : ℕ) → 0 < d → eqb (r * d + t) 0 ≡ (eqb r 0 && eqb t 0)
zero-both zero d t some = ap (λ k. eqb k 0) (omega arith)
zero-both (suc r) d t above = let some : 0 < suc r * d + t = omega arith in grind (arith, nat_tests)

not-not : (b : Bool) → not (not b) ≡ b
not-not true = refl
not-not false = refl

-- the test for a number above the limit, where the test for an exact one is known
pub above_of : (q : ℕ) {x y : Bool} → x ≡ y → (ltb (10 ^ 24) q || (eqb q (10 ^ 24) && not x)) ≡ (ltb (10 ^ 24) q || (eqb q (10 ^ 24) && not y))
above_of q e = ap (λ b. ltb (10 ^ 24) q || (eqb q (10 ^ 24) && not b)) e

above_cases : (limit q u : ℕ) → (ltb limit q || (eqb q limit && not (eqb u 0))) ≡ true → (limit < q) ⊎ ((limit ≡ q) × (0 < u))
above_cases limit q u h =
    elim (cases_lt limit q) [
      | inl lt ↦ inl lt
      | inr le ↦ elim (cases_lt q limit) [
        | inl less ↦ absurd (grind (arith, nat_tests))
        | inr same ↦ elim (cases_lt 0 u) [
          | inl some ↦ inr (omega arith, some)
          | inr none ↦ absurd (grind (arith, nat_tests))
        ]
      ]
    ]

within_cases : (limit q u : ℕ) → (ltb limit q || (eqb q limit && not (eqb u 0))) ≡ false → (q < limit) ⊎ ((q ≤ limit) × (u ≡ 0))
within_cases limit q u h =
    elim (cases_lt limit q) [
      | inl lt ↦ absurd (grind (arith, nat_tests))
      | inr le ↦ elim (cases_lt q limit) [
        | inl less ↦ inl less
        | inr same ↦ elim (cases_lt 0 u) [
          | inl some ↦ absurd (grind (arith, nat_tests))
          | inr none ↦ inr (le, omega arith)
        ]
      ]
    ]

module _ (negative : Bool) (h : Head) (m p half : ℕ) (is : IsHead h m) (positive : 0 < p) (even : p ≡ 2 * half) where
  split_digits_is : m ≡ (h.value / p) * (10 ^ h.dropped * p) + ((h.value % p) * 10 ^ h.dropped + is.tail)
  split_digits_is =
      let cut : h.value / p * p + h.value % p ≡ h.value = div-add-mod' h.value p in
      let all : (h.value / p * p + h.value % p) * 10 ^ h.dropped ≡ h.value * 10 ^ h.dropped = ap (λ k. k * 10 ^ h.dropped) cut in
      omega (arith, is.digits)

  left_is_short : (h.value % p) * 10 ^ h.dropped + is.tail < 10 ^ h.dropped * p
  left_is_short =
      let less : h.value % p < p = omega arith in
      let more : suc (h.value % p) * 10 ^ h.dropped ≤ p * 10 ^ h.dropped = mul-le-mul_right (10 ^ h.dropped) less in
      omega (arith, is.short)

  -- the test for an exact quotient, of what is left
  pub exact_is : (eqb (h.value % p) 0 && not h.rest) ≡ eqb ((h.value % p) * 10 ^ h.dropped + is.tail) 0
  exact_is =
      ap (λ r. eqb (h.value % p) 0 && r) (ap not is.rest ∙ not-not (eqb is.tail 0)) ∙ sym (zero-both (h.value % p) (10 ^ h.dropped) is.tail (ten_pos h.dropped))

  pub divided_above : (ltb (10 ^ 24) (h.value / p) || (eqb (h.value / p) (10 ^ 24) && not (eqb (h.value % p) 0 && not h.rest))) ≡ true → read_ratio negative m (10 ^ h.dropped * p) ≡ Err TooLarge
  divided_above e =
      elim (above_cases (10 ^ 24) (h.value / p) ((h.value % p) * 10 ^ h.dropped + is.tail) (ap (λ x. ltb (10 ^ 24) (h.value / p) || (eqb (h.value / p) (10 ^ 24) && not x)) (sym exact_is) ∙ e)) [
        | inl far ↦ parts_above negative m (10 ^ h.dropped * p) (h.value / p) ((h.value % p) * 10 ^ h.dropped + is.tail) split_digits_is left_is_short far
        | inr just ↦ parts_just_above negative m (10 ^ h.dropped * p) (h.value / p) ((h.value % p) * 10 ^ h.dropped + is.tail) split_digits_is left_is_short just.0 just.1
      ]

  pub divided_within : (ltb (10 ^ 24) (h.value / p) || (eqb (h.value / p) (10 ^ 24) && not (eqb (h.value % p) 0 && not h.rest))) ≡ false → m ≤ 10 ^ 24 * (10 ^ h.dropped * p)
  divided_within e =
      elim (within_cases (10 ^ 24) (h.value / p) ((h.value % p) * 10 ^ h.dropped + is.tail) (ap (λ x. ltb (10 ^ 24) (h.value / p) || (eqb (h.value / p) (10 ^ 24) && not x)) (sym exact_is) ∙ e)) [
        | inl below ↦ parts_within negative m (10 ^ h.dropped * p) (h.value / p) ((h.value % p) * 10 ^ h.dropped + is.tail) split_digits_is left_is_short below
        | inr just ↦ parts_just_within negative m (10 ^ h.dropped * p) (h.value / p) ((h.value % p) * 10 ^ h.dropped + is.tail) split_digits_is left_is_short just.0 just.1
      ]

  pub divided_up : m ≤ 10 ^ 24 * (10 ^ h.dropped * p) → p ≤ 2 * (h.value % p) → read_ratio negative m (10 ^ h.dropped * p) ≡ Ok (with_sign negative (h.value / p + 1), not (eqb (h.value % p) 0 && not h.rest))
  divided_up within high =
      let half_left : p * 10 ^ h.dropped ≤ 2 * (h.value % p) * 10 ^ h.dropped = mul-le-mul_right (10 ^ h.dropped) high in
      let some : eqb (h.value % p) 0 ≡ false = grind (arith, nat_tests) in
      parts_up negative m (10 ^ h.dropped * p) (h.value / p) ((h.value % p) * 10 ^ h.dropped + is.tail) split_digits_is left_is_short within (omega arith)
      ∙ ap (λ b. Ok (with_sign negative (h.value / p + 1), not (b && not h.rest))) (sym some)

  pub divided_down : m ≤ 10 ^ 24 * (10 ^ h.dropped * p) → 2 * (h.value % p) < p → read_ratio negative m (10 ^ h.dropped * p) ≡ Ok (with_sign negative (h.value / p), not (eqb (h.value % p) 0 && not h.rest))
  divided_down within low =
      let less : h.value % p < half = omega arith in
      let more : suc (h.value % p) * 10 ^ h.dropped ≤ half * 10 ^ h.dropped = mul-le-mul_right (10 ^ h.dropped) less in
      let all : p * 10 ^ h.dropped ≡ 2 * half * 10 ^ h.dropped = ap (λ k. k * 10 ^ h.dropped) even in
      let short = is.short in
      parts_down negative m (10 ^ h.dropped * p) (h.value / p) ((h.value % p) * 10 ^ h.dropped + is.tail) split_digits_is left_is_short within (omega arith)
      ∙ ap (λ b. Ok (with_sign negative (h.value / p), not b)) (sym exact_is)

-- ---- both powers of ten against the digits left out
pub scaled_up : (negative : Bool) (m a b d s : ℕ) → a + d ≡ b + s → read_ratio negative (m * 10 ^ a) (10 ^ b) ≡ read_ratio negative (m * 10 ^ s) (10 ^ d)
scaled_up negative m a b d s e =
    let top : m * 10 ^ a * 10 ^ d ≡ m * 10 ^ s * 10 ^ b =
    mul_assoc m (10 ^ a) (10 ^ d) ∙ ap (λ k. m * k) (sym (pow-add 10 a d) ∙ ap (λ k. 10 ^ k) (e ∙ add_comm b s) ∙ pow-add 10 s b) ∙ sym (mul_assoc m (10 ^ s) (10 ^ b)) in
    sym (read_ratio-scale negative (m * 10 ^ a) (10 ^ b) (10 ^ d) (ten_pos d))
    ∙ ap₂ (λ x y. read_ratio negative x y) top (mul_comm (10 ^ b) (10 ^ d))
    ∙ read_ratio-scale negative (m * 10 ^ s) (10 ^ d) (10 ^ b) (ten_pos b)

pub scaled_down : (negative : Bool) (m a b d s : ℕ) → b ≡ (d + s) + a → read_ratio negative (m * 10 ^ a) (10 ^ b) ≡ read_ratio negative m (10 ^ d * 10 ^ s)
scaled_down negative m a b d s e =
    let bottom : 10 ^ b ≡ 10 ^ d * 10 ^ s * 10 ^ a = ap (λ k. 10 ^ k) e ∙ pow-add 10 (d + s) a ∙ ap (λ k. k * 10 ^ a) (pow-add 10 d s) in
    ap (λ y. read_ratio negative (m * 10 ^ a) y) bottom ∙ read_ratio-scale negative m (10 ^ d * 10 ^ s) (10 ^ a) (ten_pos a)

kept_cases : (limit x kept : ℕ) → IsKept limit x kept → ((kept < limit) × (x ≡ kept)) ⊎ ((limit ≤ kept) × (limit ≤ x))
kept_cases limit x kept is = elim (cases_lt kept limit) [ inl small ↦ inl (small, is.same small) | inr big ↦ inr (big, is.large big) ]

pub far-of : (b down : ℕ) → IsKept 40 b down → 38 < down → 38 < b
far-of b down is h = omega (arith, kept_cases 40 b down is)

pub raised-far : (a up : ℕ) → IsKept 40 a up → 24 < up → 24 < a
raised-far a up is h = omega (arith, kept_cases 40 a up is)

pub ten-even : (k : ℕ) → 0 < k → 10 ^ k ≡ 2 * (5 * 10 ^ (k - 1))
ten-even k h =
    let next : k ≡ suc (k - 1) = omega arith in
    ap (λ n. 10 ^ n) next ∙ pow-suc 10 (k - 1) ∙ (omega arith)

one_cases : (limit x y : ℕ) → (limit ≤ x → y < limit) → (x < limit) ⊎ (y < limit)
one_cases limit x y h = elim (cases_lt x limit) [ inl small ↦ inl small | inr big ↦ inr (h big) ]

module _ (a b d up down : ℕ) (few : d < 2 ^ 66) (ka : IsKept (2 ^ 99) a up) (kb : IsKept (2 ^ 99) b down) (one_long : 2 ^ 66 ≤ up → down < 2 ^ 66) where
  pub raise_kept : down ≤ up + d → (b ≤ a + d) × IsKept 40 ((a + d) - b) ((up + d) - down)
  raise_kept le =
      let ca = kept_cases (2 ^ 99) a up ka in
      let cb = kept_cases (2 ^ 99) b down kb in
      let cl = one_cases (2 ^ 66) up down one_long in
      (omega (arith, ca, cb, cl), record { same = λ small. omega (arith, ca, cb, cl); large = λ big. omega (arith, ca, cb, cl) })

  pub lower_kept : up + d < down → (a + d < b) × IsKept 40 (b - (a + d)) (down - (up + d))
  lower_kept lt =
      let ca = kept_cases (2 ^ 99) a up ka in
      let cb = kept_cases (2 ^ 99) b down kb in
      let cl = one_cases (2 ^ 66) up down one_long in
      (omega (arith, ca, cb, cl), record { same = λ small. omega (arith, ca, cb, cl); large = λ big. omega (arith, ca, cb, cl) })
