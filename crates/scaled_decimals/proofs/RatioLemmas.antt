-- The nearest whole number to a fraction, and what a fraction reads as.
use Rattle.scaled_decimals.proofs.Common.{◌≡◌, ℕ, ◌+◌, ◌*◌, ◌/◌, ◌^◌, ◌<◌, ◌≤◌, true, false, Bool, not, eqb, ltb, sym, refl, ap, ap₂, ◌∙◌, inl, inr, arith, ℤ, Result, Ok, Err, lt-ltb, le-ltb, if◌then◌else◌, DecFault, TooLarge, cases_lt, nat_tests, div-eq_of_lt-le, mul-div-mul_right, mul_assoc, mul-le-mul_right, mul-lt-mul_of_pos_right, mul-div-le, lt-mul-div-succ, read_ratio, with_sign, nearest}

-- the nearest whole number is the one from one half below to one half above
pub nearest_is : (q n d : ℕ) → 0 < d → 2 * (q * d) ≤ 2 * n + d → 2 * n + d < 2 * (q * d) + 2 * d → nearest n d ≡ q
nearest_is q n d pos low high =
    div-eq_of_lt-le {k = q} (2 * d) {m = 2 * n + d} (omega arith) (omega arith)

pub nearest_above : (n d : ℕ) → 0 < d → 2 * (nearest n d * d) ≤ 2 * n + d
nearest_above n d some = let most : 2 * d * ((2 * n + d) / (2 * d)) ≤ 2 * n + d = mul-div-le (2 * n + d) (2 * d) in omega arith

pub nearest_below : (n d : ℕ) → 0 < d → 2 * n < 2 * (nearest n d * d) + d
nearest_below n d some =
    let double : 0 < 2 * d = omega arith in
    let least : 2 * n + d < 2 * d * ((2 * n + d) / (2 * d) + 1) = lt-mul-div-succ (2 * n + d) double in
    omega arith

-- what is at most a whole number is nearest to one that is
pub nearest_within : (n d limit : ℕ) → 0 < d → n ≤ limit * d → nearest n d ≤ limit
nearest_within n d limit some small =
    elim (cases_lt limit (nearest n d)) [
      | inl above ↦
          let most = nearest_above n d some in
          let more = mul-le-mul_right d above in
          absurd (omega arith)
      | inr within ↦ within
    ]

pub nearest-whole : (n d : ℕ) → 0 < d → nearest (n * d) d ≡ n
nearest-whole n d some = nearest_is n (n * d) d some (omega arith) (omega arith)

pub nearest-scale : (n d c : ℕ) → 0 < c → nearest (n * c) (d * c) ≡ nearest n d
nearest-scale n d c pos =
    let top : 2 * (n * c) + d * c ≡ (2 * n + d) * c = omega arith in
    let bottom : 2 * (d * c) ≡ (2 * d) * c = omega arith in
    ap₂ (λ x y. x / y) top bottom ∙ mul-div-mul_right (2 * n + d) (2 * d) pos

-- tests of products by one factor
pub ltb-scale : (x y c : ℕ) → 0 < c → ltb (x * c) (y * c) ≡ ltb x y
ltb-scale x y c pos =
    elim (cases_lt x y) [
      | inl lt ↦ lt-ltb (x * c) (y * c) (mul-lt-mul_of_pos_right lt pos) ∙ sym (lt-ltb x y lt)
      | inr le ↦ le-ltb (x * c) (y * c) (mul-le-mul_right c le) ∙ sym (le-ltb x y le)
    ]

pub eqb-scale : (x y c : ℕ) → 0 < c → eqb (x * c) (y * c) ≡ eqb x y
eqb-scale x y c pos =
    elim (cases_lt x y) [
      | inl lt ↦ let more = mul-lt-mul_of_pos_right lt pos in grind (arith, nat_tests)
      | inr le ↦ elim (cases_lt y x) [
        | inl gt ↦ let more = mul-lt-mul_of_pos_right gt pos in grind (arith, nat_tests)
        | inr ge ↦ let same : x ≡ y = omega arith in rw same (grind (arith, nat_tests))
      ]
    ]

-- what a fraction reads as, by its tests and its nearest whole number
answer : Bool → Bool → ℕ → Bool → Result (ℤ × Bool) DecFault
answer negative above q same = if above then Err TooLarge else Ok (with_sign negative q, not same)

answer_is : (negative : Bool) (n d : ℕ) → read_ratio negative n d ≡ answer negative (ltb (10 ^ 24 * d) n) (nearest n d) (eqb (nearest n d * d) n)
unfolding answer
answer_is negative n d = refl

pub read_ratio-scale : (negative : Bool) (n d c : ℕ) → 0 < c → read_ratio negative (n * c) (d * c) ≡ read_ratio negative n d
read_ratio-scale negative n d c pos =
    let above : ltb (10 ^ 24 * (d * c)) (n * c) ≡ ltb (10 ^ 24 * d) n = ap (λ z. ltb z (n * c)) (sym (mul_assoc (10 ^ 24) d c)) ∙ ltb-scale (10 ^ 24 * d) n c pos in
    let near : nearest (n * c) (d * c) ≡ nearest n d = nearest-scale n d c pos in
    let same : eqb (nearest (n * c) (d * c) * (d * c)) (n * c) ≡ eqb (nearest n d * d) n =
    ap (λ z. eqb (z * (d * c)) (n * c)) near ∙ ap (λ z. eqb z (n * c)) (sym (mul_assoc (nearest n d) d c)) ∙ eqb-scale (nearest n d * d) n c pos in
    answer_is negative (n * c) (d * c)
    ∙ ap₂ (λ a q. answer negative a q (eqb (nearest (n * c) (d * c) * (d * c)) (n * c))) above near
    ∙ ap (λ e. answer negative (ltb (10 ^ 24 * d) n) (nearest n d) e) same
    ∙ sym (answer_is negative n d)

pub ratio_above : (negative : Bool) (n d : ℕ) → 10 ^ 24 * d < n → read_ratio negative n d ≡ Err TooLarge
unfolding answer
ratio_above negative n d h = answer_is negative n d ∙ ap (λ a. answer negative a (nearest n d) (eqb (nearest n d * d) n)) (lt-ltb (10 ^ 24 * d) n h)

pub ratio_within : (negative : Bool) (n d q : ℕ) (same : Bool) → n ≤ 10 ^ 24 * d → nearest n d ≡ q → eqb (q * d) n ≡ same → read_ratio negative n d ≡ Ok (with_sign negative q, not same)
unfolding answer
ratio_within negative n d q same h near e =
    answer_is negative n d
    ∙ ap (λ a. answer negative a (nearest n d) (eqb (nearest n d * d) n)) (le-ltb (10 ^ 24 * d) n h)
    ∙ ap (λ k. answer negative false k (eqb (k * d) n)) near
    ∙ ap (λ k. answer negative false q k) e

-- ---- n is q wholes and u of d parts
module _ (negative : Bool) (n d q u : ℕ) (is : n ≡ q * d + u) (short : u < d) where
  pub parts_above : 10 ^ 24 < q → read_ratio negative n d ≡ Err TooLarge
  parts_above h = let more = mul-le-mul_right d h in ratio_above negative n d (omega arith)

  pub parts_just_above : 10 ^ 24 ≡ q → 0 < u → read_ratio negative n d ≡ Err TooLarge
  parts_just_above h some = let more : 10 ^ 24 * d ≡ q * d = ap (λ k. k * d) h in ratio_above negative n d (omega arith)

  pub parts_within : q < 10 ^ 24 → n ≤ 10 ^ 24 * d
  parts_within h = let more = mul-le-mul_right d h in omega arith

  pub parts_just_within : q ≤ 10 ^ 24 → u ≡ 0 → n ≤ 10 ^ 24 * d
  parts_just_within h none = let more = mul-le-mul_right d h in omega arith

  pub parts_down : n ≤ 10 ^ 24 * d → 2 * u < d → read_ratio negative n d ≡ Ok (with_sign negative q, not (eqb u 0))
  parts_down within low =
      ratio_within negative n d q (eqb u 0) within (nearest_is q n d (omega arith) (omega arith) (omega arith)) (grind (arith, nat_tests))

  pub parts_up : n ≤ 10 ^ 24 * d → d ≤ 2 * u → read_ratio negative n d ≡ Ok (with_sign negative (q + 1), true)
  parts_up within high =
      ratio_within negative n d (q + 1) false within (nearest_is (q + 1) n d (omega arith) (omega arith) (omega arith)) (grind (arith, nat_tests))
