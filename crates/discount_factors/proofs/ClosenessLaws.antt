-- How near the written factors lie to the real powers of 1 / (1 + d). Below, unit is 1 at the scale of the factors, and step is one of
-- their last place at the scale of what is divided: the product of both is 1 there.
use Rattle.discount_factors.proofs.Common.{◌≡◌, ℕ, zero, suc, ◌+◌, ◌*◌, ◌/◌, ◌^◌, ◌<◌, ◌≤◌, pow-add, ap, ◌∙◌, arith, pow-suc, pow-zero, one-mul, mul-le-mul, mul-lt-mul_of_pos_right, mul-le-mul_right, mul-le-mul_left, le_of_mul-le-mul_right, lt_of_mul-lt-mul_right, unit_of, IsPlaces, discounted, capital_factor, half_year_root, operating_factor}
use Rattle.discount_factors.proofs.Scales.{steps, half_year_steps, step_above, half_year_step_above}
use Rattle.discount_factors.proofs.ValueLaws.{discounted-le, discounted-below, discounted-above}
use Rattle.discount_factors.proofs.RootLaws.{half_year_root-le, half_year_root-within, half_year_root-above}
use Rattle.discount_factors.proofs.FactorLaws.{capital_below, capital_above, operating_below, operating_above}

-- ---- the capital factor: k is the discounted value, f the factor, p and q the powers
quotient_below : (k f p q unit step : ℕ) → unit * step ≡ 10 ^ 18 → 0 < step → f * step ≤ k → k * p ≤ 10 ^ 18 * q → f * p ≤ unit * q
quotient_below k f p q unit step steps some rounded below =
    let part : f * step * p ≤ k * p = mul-le-mul_right p rounded in
    let scale : unit * step * q ≡ 10 ^ 18 * q = ap (λ n. n * q) steps in
    let all : f * p * step ≤ unit * q * step = omega arith in
    le_of_mul-le-mul_right {m = f * p} {n = unit * q} {k = step} all some

quotient_near : (k f n p q unit step : ℕ) → unit * step ≡ 10 ^ 18 → n < step → 0 < p → k < f * step + step → 10 ^ 18 * q ≤ (k + n) * p → unit * q < (f + 2) * p
quotient_near k f n p q unit step steps few some rounded above =
    let sum : k + n < (f + 2) * step = omega arith in
    let product : (k + n) * p < (f + 2) * step * p = mul-lt-mul_of_pos_right sum some in
    let scale : unit * step * q ≡ 10 ^ 18 * q = ap (λ n. n * q) steps in
    let all : unit * q * step < (f + 2) * p * step = omega arith in
    lt_of_mul-lt-mul_right step {m = unit * q} {n = (f + 2) * p} all

pub power_pos : (a n : ℕ) → 0 < a → 0 < a ^ n
power_pos a zero some = rw pow-zero (omega arith)
power_pos a (suc n) some = let before = power_pos a n some in let more = mul-le-mul before some in rw (pow-suc a n) (omega arith)

pub capital-below : (places rate n : ℕ) → IsPlaces places → capital_factor places rate n * (10 ^ 9 + rate) ^ n ≤ unit_of places * (10 ^ 9) ^ n
capital-below places rate n is =
    let least = step_above places is in
    let some : 0 < 10 ^ 18 / unit_of places = omega arith in
    quotient_below (discounted rate n) (capital_factor places rate n) ((10 ^ 9 + rate) ^ n) ((10 ^ 9) ^ n) (unit_of places) (10 ^ 18 / unit_of places) (steps places is) some (capital_below places rate n) (discounted-below rate n)

pub capital-near : (places rate n : ℕ) → IsPlaces places → n < 10 ^ 9 → unit_of places * (10 ^ 9) ^ n < (capital_factor places rate n + 2) * (10 ^ 9 + rate) ^ n
capital-near places rate n is few =
    let least = step_above places is in
    let fewer : n < 10 ^ 18 / unit_of places = omega arith in
    quotient_near (discounted rate n) (capital_factor places rate n) n ((10 ^ 9 + rate) ^ n) ((10 ^ 9) ^ n) (unit_of places) (10 ^ 18 / unit_of places) (steps places is) fewer (power_pos (10 ^ 9 + rate) n (omega arith)) (capital_above places rate n is) (discounted-above rate n)

-- ---- the operating factor: k is the discounted value, h the half-year root, o the factor, p and q the powers of a and b
squared_steps : (unit step : ℕ) → unit * step ≡ 10 ^ 30 → (unit * unit) * (step * step) ≡ 10 ^ 60
squared_steps unit step steps = let square : (unit * step) * (unit * step) ≡ 10 ^ 30 * 10 ^ 30 = ap (λ n. n * n) steps in omega arith

product_below : (k h o p q a b unit step : ℕ) → unit * step ≡ 10 ^ 30 → 0 < step → o * step ≤ k * h → k * p ≤ 10 ^ 18 * q → h * h * a ≤ 10 ^ 24 * b → o * o * (p * (p * a)) ≤ unit * unit * (q * (q * b))
product_below k h o p q a b unit step steps some rounded value root =
    let factor : (o * step) * (o * step) ≤ (k * h) * (k * h) = mul-le-mul rounded rounded in
    let scaled : (o * step) * (o * step) * (p * (p * a)) ≤ (k * h) * (k * h) * (p * (p * a)) = mul-le-mul_right (p * (p * a)) factor in
    let values : (k * p) * (k * p) ≤ (10 ^ 18 * q) * (10 ^ 18 * q) = mul-le-mul value value in
    let product : (k * p) * (k * p) * (h * h * a) ≤ (10 ^ 18 * q) * (10 ^ 18 * q) * (10 ^ 24 * b) = mul-le-mul values root in
    let scale : (unit * unit) * (step * step) * (q * (q * b)) ≡ 10 ^ 60 * (q * (q * b)) = ap (λ n. n * (q * (q * b))) (squared_steps unit step steps) in
    let all : o * o * (p * (p * a)) * (step * step) ≤ unit * unit * (q * (q * b)) * (step * step) = omega arith in
    let positive : 0 < step * step = mul-le-mul some some in
    le_of_mul-le-mul_right {m = o * o * (p * (p * a))} {n = unit * unit * (q * (q * b))} {k = step * step} all positive

-- x is above the value, y above the root, and their product z at most at the factor's scale
product_near : (x y z p q a b unit step : ℕ) → unit * step ≡ 10 ^ 30 → 0 < q → 10 ^ 18 * q ≤ x * p → 10 ^ 24 * b < y * y * a → x * y ≤ z * step → unit * unit * (q * (q * b)) < z * z * (p * (p * a))
product_near x y z p q a b unit step steps some value root sum =
    let squares : (10 ^ 18 * q) * (10 ^ 18 * q) ≤ (x * p) * (x * p) = mul-le-mul value value in
    let positive : 0 < q * q = mul-le-mul some some in
    let strict : (10 ^ 24 * b) * ((10 ^ 18 * q) * (10 ^ 18 * q)) < (y * y * a) * ((10 ^ 18 * q) * (10 ^ 18 * q)) = mul-lt-mul_of_pos_right root (omega arith) in
    let larger : (y * y * a) * ((10 ^ 18 * q) * (10 ^ 18 * q)) ≤ (y * y * a) * ((x * p) * (x * p)) = mul-le-mul_left (y * y * a) squares in
    let product : (x * y) * (x * y) ≤ (z * step) * (z * step) = mul-le-mul sum sum in
    let scaled : (x * y) * (x * y) * (p * (p * a)) ≤ (z * step) * (z * step) * (p * (p * a)) = mul-le-mul_right (p * (p * a)) product in
    let scale : (unit * unit) * (step * step) * (q * (q * b)) ≡ 10 ^ 60 * (q * (q * b)) = ap (λ n. n * (q * (q * b))) (squared_steps unit step steps) in
    let all : unit * unit * (q * (q * b)) * (step * step) < z * z * (p * (p * a)) * (step * step) = omega arith in
    lt_of_mul-lt-mul_right (step * step) {m = unit * unit * (q * (q * b))} {n = z * z * (p * (p * a))} all

-- the roundings together are less than one of the last place: those of the years, each at the root's scale, and that of the root
product_sum : (k h n o step : ℕ) → n < 10 ^ 8 → 10 ^ 21 ≤ step → k ≤ 10 ^ 18 → h ≤ 10 ^ 12 → k * h < o * step + step → (k + n) * (h + 1) ≤ (o + 2) * step
product_sum k h n o step few large value root rounded =
    let part : n * h ≤ 10 ^ 8 * 10 ^ 12 = mul-le-mul {n₁ = n} {m₁ = h} {n₂ = 10 ^ 8} {m₂ = 10 ^ 12} (omega arith) root in
    omega arith

-- powers with an odd exponent, and squares
odd_power : (a n : ℕ) → a ^ (2 * n + 1) ≡ a ^ n * (a ^ n * a)
odd_power a n =
    let two : 2 * n + 1 ≡ n + suc n = omega arith in
    ap (λ k. a ^ k) two ∙ pow-add a n (suc n) ∙ ap (λ k. a ^ n * k) (pow-suc a n)

square : (a : ℕ) → a ^ 2 ≡ a * a
square a = pow-suc a 1 ∙ ap (λ k. k * a) (pow-suc a 0 ∙ ap (λ k. k * a) (pow-zero a)) ∙ ap (λ k. k * a) (one-mul a)

pub operating-below : (places rate n : ℕ) → IsPlaces places → operating_factor places rate n ^ 2 * (10 ^ 9 + rate) ^ (2 * n + 1) ≤ unit_of places ^ 2 * (10 ^ 9) ^ (2 * n + 1)
operating-below places rate n is =
    let least = half_year_step_above places is in
    let some : 0 < 10 ^ 30 / unit_of places = omega arith in
    let all = product_below (discounted rate n) (half_year_root rate) (operating_factor places rate n) ((10 ^ 9 + rate) ^ n) ((10 ^ 9) ^ n) (10 ^ 9 + rate) (10 ^ 9) (unit_of places) (10 ^ 30 / unit_of places) (half_year_steps places is) some (operating_below places rate n) (discounted-below rate n) (half_year_root-within rate) in
    rw (square (operating_factor places rate n), square (unit_of places), odd_power (10 ^ 9 + rate) n, odd_power (10 ^ 9) n) all

pub operating-near : (places rate n : ℕ) → IsPlaces places → n < 10 ^ 8 → unit_of places ^ 2 * (10 ^ 9) ^ (2 * n + 1) < (operating_factor places rate n + 2) ^ 2 * (10 ^ 9 + rate) ^ (2 * n + 1)
operating-near places rate n is few =
    let sum = product_sum (discounted rate n) (half_year_root rate) n (operating_factor places rate n) (10 ^ 30 / unit_of places) few (half_year_step_above places is) (discounted-le rate n) (half_year_root-le rate) (operating_above places rate n is) in
    let all = product_near (discounted rate n + n) (half_year_root rate + 1) (operating_factor places rate n + 2) ((10 ^ 9 + rate) ^ n) ((10 ^ 9) ^ n) (10 ^ 9 + rate) (10 ^ 9) (unit_of places) (10 ^ 30 / unit_of places) (half_year_steps places is) (power_pos (10 ^ 9) n (omega arith)) (discounted-above rate n) (half_year_root-above rate) sum in
    rw (square (operating_factor places rate n + 2), square (unit_of places), odd_power (10 ^ 9 + rate) n, odd_power (10 ^ 9) n) all
