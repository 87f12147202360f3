-- The annuity: which quotient it is, and that it is at most the years of the life.
-- With A = 10^9 + rate, a year's rounding adds less than A to what (10^18 - discounted) * A gains in it. From the third year on the
-- interest on what earlier years have lost is more than twice as much, so that the annuity of six years and more stays below the life.
use Rattle.discount_factors.proofs.Common.{◌≡◌, ℕ, zero, suc, ◌+◌, ◌-◌, ◌*◌, ◌/◌, ◌^◌, ◌<◌, ◌≤◌, true, ltb, refl, subst, inl, inr, arith, div-le_of_le-mul, mul-le-mul, mul-le-mul_left, mul-le-mul_right, le_of_mul-le-mul_right, cases_lt, cond_both, cond-true, ltb-true, unit_of, discounted, annuity}
use Rattle.discount_factors.proofs.ValueLaws.{discounted-first, discounted-le, discounted-monotone, year_below, year_above}

-- ---- which quotient it is
pub annuity-above_0 : (places rate life : ℕ) → ltb 0 rate ≡ true → annuity places rate life ≡ unit_of places * (10 ^ 18 - discounted rate life) * (10 ^ 9 + rate) / (10 ^ 18 * rate)
unfolding annuity
annuity-above_0 places rate life tested = cond-true (ltb 0 rate) (unit_of places * (10 ^ 18 - discounted rate life) * (10 ^ 9 + rate) / (10 ^ 18 * rate)) (unit_of places * life) tested

pub annuity-level : (places life : ℕ) → annuity places 0 life ≡ unit_of places * life
unfolding annuity
annuity-level places life = refl

-- ---- what the years lose
loss_sum : (lost m before k rate : ℕ) → lost + m ≡ 10 ^ 18 → before + k ≡ 10 ^ 18 → k * 10 ^ 9 < m * (10 ^ 9 + rate) + (10 ^ 9 + rate) → lost * (10 ^ 9 + rate) + before * rate ≤ before * (10 ^ 9 + rate) + 10 ^ 18 * rate + (10 ^ 9 + rate)
loss_sum lost m before k rate all first above =
    let scaled : (lost + m) * (10 ^ 9 + rate) ≡ 10 ^ 18 * (10 ^ 9 + rate) = rw all refl in
    let earlier : (before + k) * 10 ^ 9 ≡ 10 ^ 18 * 10 ^ 9 = rw first refl in
    omega arith

-- one year: k is its value and m the next one's, a is 10^9 + rate
year_loses : (k m rate : ℕ) → k ≤ 10 ^ 18 → m ≤ 10 ^ 18 → k * 10 ^ 9 < m * (10 ^ 9 + rate) + (10 ^ 9 + rate) → (10 ^ 18 - m) * (10 ^ 9 + rate) + (10 ^ 18 - k) * rate ≤ (10 ^ 18 - k) * (10 ^ 9 + rate) + 10 ^ 18 * rate + (10 ^ 9 + rate)
year_loses k m rate first second above =
    let kept : (10 ^ 18 - m) + m ≡ 10 ^ 18 = omega arith in
    let before : (10 ^ 18 - k) + k ≡ 10 ^ 18 = omega arith in
    loss_sum (10 ^ 18 - m) m (10 ^ 18 - k) k rate kept before above

pub year_more : (rate n : ℕ) → (10 ^ 18 - discounted rate (suc n)) * (10 ^ 9 + rate) + (10 ^ 18 - discounted rate n) * rate ≤ (10 ^ 18 - discounted rate n) * (10 ^ 9 + rate) + 10 ^ 18 * rate + (10 ^ 9 + rate)
year_more rate n = year_loses (discounted rate n) (discounted rate (suc n)) rate (discounted-le rate n) (discounted-le rate (suc n)) (year_above rate n)

-- n years: at most a rounding each above n times the interest on the whole
pub years_most : (rate n : ℕ) → (10 ^ 18 - discounted rate n) * (10 ^ 9 + rate) ≤ n * (10 ^ 18 * rate + (10 ^ 9 + rate))
years_most rate zero = rw (discounted-first rate) (omega arith)
years_most rate (suc n) = let before = years_most rate n in let more = year_more rate n in omega arith

-- ---- the interest on what is lost, where the rate is above 0
first_loss : (rate : ℕ) → 10 ^ 18 * rate ≤ (10 ^ 18 - discounted rate 1) * (10 ^ 9 + rate)
first_loss rate =
    let below : discounted rate 1 * (10 ^ 9 + rate) ≤ 10 ^ 18 * 10 ^ 9 = rw (discounted-first rate) at (year_below rate 0) in
    let most = discounted-le rate 1 in
    let all : (10 ^ 18 - discounted rate 1) + discounted rate 1 ≡ 10 ^ 18 = omega arith in
    let scaled : ((10 ^ 18 - discounted rate 1) + discounted rate 1) * (10 ^ 9 + rate) ≡ 10 ^ 18 * (10 ^ 9 + rate) = rw all refl in
    omega arith

-- a rate of two billionths and more: already the first year loses enough
interest_of : (lost rate : ℕ) → 1 < rate → 10 ^ 18 * rate ≤ lost * (10 ^ 9 + rate) → 2 * (10 ^ 9 + rate) ≤ lost * rate
interest_of lost rate more loses =
    let sum : 10 ^ 9 + rate ≤ 600000000 * rate = omega arith in
    let square : (10 ^ 9 + rate) * (10 ^ 9 + rate) ≤ (600000000 * rate) * (600000000 * rate) = mul-le-mul sum sum in
    let scaled : 10 ^ 18 * rate * rate ≤ lost * (10 ^ 9 + rate) * rate = mul-le-mul_right rate loses in
    let all : 2 * (10 ^ 9 + rate) * (10 ^ 9 + rate) ≤ lost * rate * (10 ^ 9 + rate) = omega arith in
    le_of_mul-le-mul_right {m = 2 * (10 ^ 9 + rate)} {n = lost * rate} {k = 10 ^ 9 + rate} all (omega arith)

-- a rate of one billionth: after three years
third_of_least : discounted 1 3 ≡ 999999997000000003
unfolding discounted
third_of_least = refl

interest_of_least : (n : ℕ) → 3 ≤ n → 2 * (10 ^ 9 + 1) ≤ (10 ^ 18 - discounted 1 n) * 1
interest_of_least n late = let falls : discounted 1 n ≤ 999999997000000003 = rw third_of_least at (discounted-monotone 1 3 n late) in omega arith

interest : (rate n : ℕ) → 0 < rate → 3 ≤ n → 2 * (10 ^ 9 + rate) ≤ (10 ^ 18 - discounted rate n) * rate
interest rate n some late =
    elim (cases_lt 1 rate) [
      | inl more ↦
          let falls : discounted rate n ≤ discounted rate 1 = discounted-monotone rate 1 n (omega arith) in
          let later : (10 ^ 18 - discounted rate 1) * rate ≤ (10 ^ 18 - discounted rate n) * rate = mul-le-mul_right rate (omega arith) in
          let early = interest_of (10 ^ 18 - discounted rate 1) rate more (first_loss rate) in
          omega arith
      | inr least ↦ let same : 1 ≡ rate = omega arith in subst (λ r. 2 * (10 ^ 9 + r) ≤ (10 ^ 18 - discounted r n) * r) same (interest_of_least n late)
    ]

-- ---- so the excess of the first three years is gone three years later
years_less : (rate k : ℕ) → 0 < rate → (10 ^ 18 - discounted rate (k + 3)) * (10 ^ 9 + rate) + k * (10 ^ 9 + rate) ≤ (k + 3) * (10 ^ 18 * rate) + 3 * (10 ^ 9 + rate)
years_less rate zero some = let three = years_most rate 3 in let same : 0 + 3 ≡ 3 = refl in rw same (omega arith)
years_less rate (suc k) some =
    let before = years_less rate k some in
    let more = year_more rate (k + 3) in
    let gained = interest rate (k + 3) some (omega arith) in
    let next : suc k + 3 ≡ suc (k + 3) = omega arith in
    rw next (omega arith)

pub life_most : (rate life : ℕ) → 0 < rate → 6 ≤ life → (10 ^ 18 - discounted rate life) * (10 ^ 9 + rate) ≤ life * (10 ^ 18 * rate)
life_most rate life some long =
    let all = years_less rate (life - 3) some in
    let three : 3 * (10 ^ 9 + rate) ≤ (life - 3) * (10 ^ 9 + rate) = mul-le-mul_right (10 ^ 9 + rate) (omega arith) in
    let same : (life - 3) + 3 ≡ life = omega arith in
    let at_life : (10 ^ 18 - discounted rate life) * (10 ^ 9 + rate) + (life - 3) * (10 ^ 9 + rate) ≤ life * (10 ^ 18 * rate) + 3 * (10 ^ 9 + rate) = rw same at all in
    omega arith

pub life_next : (rate life : ℕ) → 0 < rate → life < 6 → (10 ^ 18 - discounted rate life) * (10 ^ 9 + rate) ≤ (life + 1) * (10 ^ 18 * rate)
life_next rate life some short =
    let all = years_most rate life in
    let few : life * (10 ^ 9 + rate) ≤ 5 * (10 ^ 9 + rate) = mul-le-mul_right (10 ^ 9 + rate) (omega arith) in
    omega arith

-- ---- the quotient
worth_most : (unit lost rate years : ℕ) → lost * (10 ^ 9 + rate) ≤ years * (10 ^ 18 * rate) → unit * lost * (10 ^ 9 + rate) / (10 ^ 18 * rate) ≤ unit * years
worth_most unit lost rate years most =
    let scaled : unit * (lost * (10 ^ 9 + rate)) ≤ unit * (years * (10 ^ 18 * rate)) = mul-le-mul_left unit most in
    div-le_of_le-mul (10 ^ 18 * rate) (omega arith)

annuity_most : (places rate life years : ℕ) → life ≤ years → (0 < rate → (10 ^ 18 - discounted rate life) * (10 ^ 9 + rate) ≤ years * (10 ^ 18 * rate)) → annuity places rate life ≤ unit_of places * years
unfolding annuity
annuity_most places rate life years within most =
    cond_both (ltb 0 rate) (unit_of places * (10 ^ 18 - discounted rate life) * (10 ^ 9 + rate) / (10 ^ 18 * rate)) (unit_of places * life) (λ n. n ≤ unit_of places * years)
    (λ tested. worth_most (unit_of places) (10 ^ 18 - discounted rate life) rate years (most (ltb-true 0 rate tested)))
    (λ _. mul-le-mul_left (unit_of places) within)

pub annuity_of_life-le : (places rate life : ℕ) → 6 ≤ life → annuity places rate life ≤ unit_of places * life
annuity_of_life-le places rate life long = annuity_most places rate life life (omega arith) (λ some. life_most rate life some long)

pub annuity-le : (places rate life : ℕ) → annuity places rate life ≤ unit_of places * (life + 1)
annuity-le places rate life =
    elim (cases_lt life 6) [
      | inl short ↦ annuity_most places rate life (life + 1) (omega arith) (λ some. life_next rate life some short)
      | inr long ↦
          let most = annuity_of_life-le places rate life long in
          let more : unit_of places * life ≤ unit_of places * (life + 1) = mul-le-mul_left (unit_of places) (omega arith) in
          omega arith
    ]

pub annuity_of_200-le : (places rate life : ℕ) → life ≤ 200 → annuity places rate life ≤ unit_of places * 200
annuity_of_200-le places rate life within =
    elim (cases_lt life 6) [
      | inl short ↦
          let most = annuity-le places rate life in
          let more : unit_of places * (life + 1) ≤ unit_of places * 200 = mul-le-mul_left (unit_of places) (omega arith) in
          omega arith
      | inr long ↦
          let most = annuity_of_life-le places rate life long in
          let more : unit_of places * life ≤ unit_of places * 200 = mul-le-mul_left (unit_of places) within in
          omega arith
    ]
