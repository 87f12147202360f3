-- The nearest whole number to a quotient, from a whole number below it and what is left.
use Rattle.scaled_decimals.proofs.Common.{◌≡◌, ℕ, ◌+◌, ◌-◌, ◌*◌, ◌/◌, ◌%◌, ◌^◌, ◌<◌, ◌≤◌, ap, ◌∙◌, arith, add-one, pow-suc, pow-le-pow_right, mul-add-div_right, div-mul-add, div-add-mod', nearest}

-- less than half is left
pub nearest-down : (n d k r : ℕ) → k * d + r ≡ n → r < d → r < d - r → nearest n d ≡ k
nearest-down n d k r e h s =
    let f : 2 * n + d ≡ k * (2 * d) + (2 * r + d) = omega arith in
    ap (λ x. x / (2 * d)) f ∙ div-mul-add k (2 * d) (2 * r + d) (omega arith)

-- half or more is left
pub nearest-up : (n d k r : ℕ) → k * d + r ≡ n → r < d → d - r ≤ r → nearest n d ≡ k + 1
nearest-up n d k r e h s =
    let f : 2 * n + d ≡ (k + 1) * (2 * d) + (2 * r - d) = omega arith in
    ap (λ x. x / (2 * d)) f ∙ div-mul-add (k + 1) (2 * d) (2 * r - d) (omega arith)

-- m times a whole number goes through the rounding
pub nearest-whole : (m n d : ℕ) → 0 < d → nearest (m * n) d ≡ m * (n / d) + nearest (m * (n % d)) d
nearest-whole m n d h =
    let e : n / d * d + n % d ≡ n = div-add-mod' n d in
    let g : m * (n / d * d + n % d) ≡ m * n = ap (λ x. m * x) e in
    let f : 2 * (m * n) + d ≡ m * (n / d) * (2 * d) + (2 * (m * (n % d)) + d) = omega arith in
    ap (λ x. x / (2 * d)) f ∙ mul-add-div_right (omega arith) (m * (n / d)) (2 * (m * (n % d)) + d)

-- one more decimal place
pub place-more : (count den rest digit left part i : ℕ) → count * den + rest ≡ 10 ^ i * part → digit * den + left ≡ 10 * rest → (10 * count + digit) * den + left ≡ 10 ^ (i + 1) * part
place-more count den rest digit left part i e f =
    let p : 10 ^ (i + 1) ≡ 10 * 10 ^ i = ap (λ k. 10 ^ k) (add-one i) ∙ pow-suc 10 i ∙ omega arith in
    let q : 10 ^ (i + 1) * part ≡ 10 * 10 ^ i * part = ap (λ x. x * part) p in
    omega arith

pub place-short : (count digit i : ℕ) → count < 10 ^ i → digit < 10 → 10 * count + digit < 10 ^ (i + 1)
place-short count digit i h g =
    let p : 10 ^ (i + 1) ≡ 10 * 10 ^ i = ap (λ k. 10 ^ k) (add-one i) ∙ pow-suc 10 i ∙ omega arith in
    omega arith

-- five places are below 100000
pub place-bound : (count i : ℕ) → count < 10 ^ i → i < 6 → count < 100000
place-bound count i h g =
    let g' : i ≤ 5 = omega arith in
    let p : 10 ^ i ≤ 10 ^ 5 = pow-le-pow_right (omega arith) g' in
    omega arith

-- what is known after six places
pub six-places : (count den rest part i : ℕ) → i ≤ 6 → 6 ≤ i → count * den + rest ≡ 10 ^ i * part → count * den + rest ≡ 1000000 * part
six-places count den rest part i g h e =
    let s : i ≡ 6 = omega arith in
    e ∙ ap (λ k. 10 ^ k * part) s

pub six-places-short : (count i : ℕ) → i ≤ 6 → 6 ≤ i → count < 10 ^ i → count < 1000000
six-places-short count i g h e =
    let p : 10 ^ i ≤ 10 ^ 6 = pow-le-pow_right (omega arith) g in
    omega arith
