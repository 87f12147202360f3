-- The capital and the operating factor: what their quotients say, that neither is above 1, and what they are at rate 0.
use Rattle.discount_factors.proofs.Common.{◌≡◌, ℕ, ◌+◌, ◌*◌, ◌/◌, ◌^◌, ◌<◌, ◌≤◌, refl, arith, div-mul-le_self, lt-div-mul-add, le_of_mul-le-mul_right, mul-le-mul, unit_of, IsPlaces, discounted, capital_factor, half_year_root, root_from, operating_factor}
use Rattle.discount_factors.proofs.Scales.{at_places, steps, half_year_steps, step_above, half_year_step_above}
use Rattle.discount_factors.proofs.ValueLaws.{discounted-le, discounted-level}
use Rattle.discount_factors.proofs.RootLaws.{half_year_root-le}

-- ---- what the quotients say
pub capital_below : (places rate n : ℕ) → capital_factor places rate n * (10 ^ 18 / unit_of places) ≤ discounted rate n
unfolding capital_factor
capital_below places rate n = div-mul-le_self (discounted rate n) (10 ^ 18 / unit_of places)

pub capital_above : (places rate n : ℕ) → IsPlaces places → discounted rate n < capital_factor places rate n * (10 ^ 18 / unit_of places) + 10 ^ 18 / unit_of places
unfolding capital_factor
capital_above places rate n is =
    let least = step_above places is in
    let some : 0 < 10 ^ 18 / unit_of places = omega arith in
    lt-div-mul-add {a = discounted rate n} {b = 10 ^ 18 / unit_of places} some

pub operating_below : (places rate n : ℕ) → operating_factor places rate n * (10 ^ 30 / unit_of places) ≤ discounted rate n * half_year_root rate
unfolding operating_factor
operating_below places rate n = div-mul-le_self (discounted rate n * half_year_root rate) (10 ^ 30 / unit_of places)

pub operating_above : (places rate n : ℕ) → IsPlaces places → discounted rate n * half_year_root rate < operating_factor places rate n * (10 ^ 30 / unit_of places) + 10 ^ 30 / unit_of places
unfolding operating_factor
operating_above places rate n is =
    let least = half_year_step_above places is in
    let some : 0 < 10 ^ 30 / unit_of places = omega arith in
    lt-div-mul-add {a = discounted rate n * half_year_root rate} {b = 10 ^ 30 / unit_of places} some

-- ---- none is above the unit
quotient_most : (f unit step k whole : ℕ) → unit * step ≡ whole → 0 < step → f * step ≤ k → k ≤ whole → f ≤ unit
quotient_most f unit step k whole steps some below most =
    let all : f * step ≤ unit * step = omega arith in
    le_of_mul-le-mul_right {m = f} {n = unit} {k = step} all some

pub capital_factor-le : (places rate n : ℕ) → IsPlaces places → capital_factor places rate n ≤ unit_of places
capital_factor-le places rate n is =
    let least = step_above places is in
    let some : 0 < 10 ^ 18 / unit_of places = omega arith in
    quotient_most (capital_factor places rate n) (unit_of places) (10 ^ 18 / unit_of places) (discounted rate n) (10 ^ 18) (steps places is) some (capital_below places rate n) (discounted-le rate n)

pub operating_factor-le : (places rate n : ℕ) → IsPlaces places → operating_factor places rate n ≤ unit_of places
operating_factor-le places rate n is =
    let least = half_year_step_above places is in
    let some : 0 < 10 ^ 30 / unit_of places = omega arith in
    let product : discounted rate n * half_year_root rate ≤ 10 ^ 18 * 10 ^ 12 =
    mul-le-mul {n₁ = discounted rate n} {m₁ = half_year_root rate} {n₂ = 10 ^ 18} {m₂ = 10 ^ 12} (discounted-le rate n) (half_year_root-le rate) in
    let most : discounted rate n * half_year_root rate ≤ 10 ^ 30 = omega arith in
    quotient_most (operating_factor places rate n) (unit_of places) (10 ^ 30 / unit_of places) (discounted rate n * half_year_root rate) (10 ^ 30) (half_year_steps places is) some (operating_below places rate n) most

-- ---- rate 0
pub half_year_root-level : half_year_root 0 ≡ 10 ^ 12
unfolding half_year_root root_from
half_year_root-level = refl

pub capital_factor-level : (places n : ℕ) → IsPlaces places → capital_factor places 0 n ≡ unit_of places
unfolding capital_factor
capital_factor-level places n is = rw (discounted-level n) (at_places (λ p. 10 ^ 18 / (10 ^ 18 / unit_of p) ≡ unit_of p) refl refl places is)

pub operating_factor-level : (places n : ℕ) → IsPlaces places → operating_factor places 0 n ≡ unit_of places
unfolding operating_factor
operating_factor-level places n is = rw (discounted-level n, half_year_root-level) (at_places (λ p. 10 ^ 18 * 10 ^ 12 / (10 ^ 30 / unit_of p) ≡ unit_of p) refl refl places is)
