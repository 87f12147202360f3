-- What the printed forms read as.
use Rattle.scaled_decimals.proofs.Common.{◌≡◌, ◌≢◌, ℕ, ◌+◌, ◌*◌, ◌/◌, ◌%◌, ◌<◌, ◌≤◌, ◌^◌, ℤ, pos, negsuc, neg_ℤ, ◌*ℤ◌, ◌-ℤ◌, ◌<ℤ◌, List, [], ◌∷◌, ◌++◌, length, refl, sym, ap, ◌∙◌, arith, append_assoc, suc, lit<, mod-lt, div-div-eq-div-mul, ints, div-add-mod', div_below, nat_tests, decimal_is_IsNumeral_wide, digit_value_digit, digit_from_value, digit_value, IsInRange, signed_decimal, digits, pair, signed_by, InRange, fraction_text, millionths, millionths_text, sign_of, last_digit, six_digits, before_point, after_point, unsigned_millionths, read_millionths, nearest}
use Rattle.std.specs.Prelude.{unsigned_abs, codes, decimal, if◌then◌else◌, ◌==◌, false}
use Rattle.std.specs.Str.Parse.{IsNumeral, AllDigits, digits_value, digits_value_after}
use Rattle.exact_num.proofs.Ring.{neg_ℤ-*ℤ}
use Rattle.scaled_decimals.proofs.PrintedTexts.{fraction_text-whole, fraction_text-quotient, unsigned_abs-signed_by}

-- ---- fractions
pub signed_decimal-sign : (n : ℤ) → signed_decimal n ≡ sign_of n ++ decimal (unsigned_abs n)
signed_decimal-sign (pos n) = refl
signed_decimal-sign (negsuc n) = refl

pub signed_decimal-positive : (n : ℤ) → pos 0 <ℤ n → signed_decimal n ≡ decimal (unsigned_abs n)
signed_decimal-positive (pos n) h = refl
signed_decimal-positive (negsuc n) h = absurd (omega arith)

pub whole-pieces : (n d : ℤ) → d ≡ pos 1 → fraction_text (pair n d) ≡ sign_of n ++ decimal (unsigned_abs n)
whole-pieces n d e = fraction_text-whole n d e ∙ signed_decimal-sign n

pub quotient-pieces : (n d : ℤ) → pos 0 <ℤ d → d ≢ pos 1 → fraction_text (pair n d) ≡ sign_of n ++ decimal (unsigned_abs n) ++ codes "/" ++ decimal (unsigned_abs d)
quotient-pieces n d p h =
    fraction_text-quotient n d p h
    ∙ ap (λ t. t ++ codes "/" ++ signed_decimal d) (signed_decimal-sign n)
    ∙ ap (λ t. sign_of n ++ decimal (unsigned_abs n) ++ codes "/" ++ t) (signed_decimal-positive d p)

-- ---- six digits
pub last_digit-is_digit : (n : ℕ) → digit_value (last_digit n) ≡ n % 10
last_digit-is_digit n =
    let h : n % 10 < 10 = mod-lt n (lit< tt) in
    let e : digit_value (48 + n % 10) + 48 ≡ 48 + n % 10 = digit_value_digit (48 + n % 10) (omega arith, omega arith) in
    omega arith

-- the digits of n before its last digit, and n's last digit, read as n
pub read_on : (m n : ℕ) → m ≡ n / 10 → m * 10 + digit_value (last_digit n) ≡ n
read_on m n e =
    let d : digit_value (last_digit n) ≡ n % 10 = last_digit-is_digit n in
    let q : n / 10 * 10 + n % 10 ≡ n = div-add-mod' n 10 in
    omega arith

pub six_digits-value : (n : ℕ) → n < 1000000 → digits_value 10 (six_digits n) ≡ n
six_digits-value n h =
    let e5 : 0 * 10 + digit_value (last_digit (n / 100000)) ≡ n / 100000 = read_on 0 (n / 100000) (omega arith) in
    let e4 : n / 100000 * 10 + digit_value (last_digit (n / 10000)) ≡ n / 10000 = read_on (n / 100000) (n / 10000) (sym (div-div-eq-div-mul n 10000 10)) in
    let e3 : n / 10000 * 10 + digit_value (last_digit (n / 1000)) ≡ n / 1000 = read_on (n / 10000) (n / 1000) (sym (div-div-eq-div-mul n 1000 10)) in
    let e2 : n / 1000 * 10 + digit_value (last_digit (n / 100)) ≡ n / 100 = read_on (n / 1000) (n / 100) (sym (div-div-eq-div-mul n 100 10)) in
    let e1 : n / 100 * 10 + digit_value (last_digit (n / 10)) ≡ n / 10 = read_on (n / 100) (n / 10) (sym (div-div-eq-div-mul n 10 10)) in
    let e0 : n / 10 * 10 + digit_value (last_digit n) ≡ n = read_on (n / 10) n refl in
    ap (λ k. digits_value_after 10 k (last_digit (n / 10000) ∷ last_digit (n / 1000) ∷ last_digit (n / 100) ∷ last_digit (n / 10) ∷ last_digit n ∷ [])) e5
    ∙ ap (λ k. digits_value_after 10 k (last_digit (n / 1000) ∷ last_digit (n / 100) ∷ last_digit (n / 10) ∷ last_digit n ∷ [])) e4
    ∙ ap (λ k. digits_value_after 10 k (last_digit (n / 100) ∷ last_digit (n / 10) ∷ last_digit n ∷ [])) e3
    ∙ ap (λ k. digits_value_after 10 k (last_digit (n / 10) ∷ last_digit n ∷ [])) e2
    ∙ ap (λ k. digits_value_after 10 k (last_digit n ∷ [])) e1
    ∙ e0

-- ---- digits, a point and more
digit-no_point : (c : ℕ) → digit_value c < 10 → (c == 46) ≡ false
digit-no_point c h = let r : IsInRange 48 57 c = digit_from_value c h in grind (arith, nat_tests)

digit-no_minus : (c : ℕ) → digit_value c < 10 → (c == 45) ≡ false
digit-no_minus c h = let r : IsInRange 48 57 c = digit_from_value c h in grind (arith, nat_tests)

pub before_point-digits : (ds rest : List ℕ) → AllDigits 10 ds → before_point (ds ++ 46 ∷ rest) ≡ ds
unfolding before_point
before_point-digits [] rest h = refl
before_point-digits (c ∷ cs) rest h =
    ap (λ b. if b then [] else c ∷ before_point (cs ++ 46 ∷ rest)) (digit-no_point c h.0)
    ∙ ap (λ t. c ∷ t) (before_point-digits cs rest h.1)

pub after_point-digits : (ds rest : List ℕ) → AllDigits 10 ds → after_point (ds ++ 46 ∷ rest) ≡ rest
unfolding after_point
after_point-digits [] rest h = refl
after_point-digits (c ∷ cs) rest h =
    ap (λ b. if b then cs ++ 46 ∷ rest else after_point (cs ++ 46 ∷ rest)) (digit-no_point c h.0)
    ∙ after_point-digits cs rest h.1

pub after_point-minus : (text : List ℕ) → after_point (45 ∷ text) ≡ after_point text
unfolding after_point
after_point-minus text = refl

pub unsigned-digits : (ds rest : List ℕ) → AllDigits 10 ds → unsigned_millionths (ds ++ 46 ∷ rest) ≡ 1000000 * digits_value 10 ds + digits_value 10 rest
unsigned-digits ds rest h =
    ap (λ t. 1000000 * digits_value 10 t + digits_value 10 (after_point (ds ++ 46 ∷ rest))) (before_point-digits ds rest h)
    ∙ ap (λ t. 1000000 * digits_value 10 ds + digits_value 10 t) (after_point-digits ds rest h)

pub read-digits : (ds rest : List ℕ) → AllDigits 10 ds → 0 < length ds → read_millionths (ds ++ 46 ∷ rest) ≡ pos (unsigned_millionths (ds ++ 46 ∷ rest))
unfolding read_millionths
read-digits [] rest h p = absurd (omega arith)
read-digits (c ∷ cs) rest h p =
    ap (λ b. if b then neg_ℤ (pos (unsigned_millionths (cs ++ 46 ∷ rest))) else pos (unsigned_millionths (c ∷ cs ++ 46 ∷ rest))) (digit-no_minus c h.0)

pub read-minus : (text : List ℕ) → read_millionths (45 ∷ text) ≡ neg_ℤ (pos (unsigned_millionths text))
unfolding read_millionths
read-minus text = refl

-- ---- numbers of millionths
pub millionths_text-pos : (m : ℕ) → millionths_text (pos m) ≡ decimal (m / 1000000) ++ 46 ∷ six_digits (m % 1000000)
unfolding millionths_text
millionths_text-pos m = append_assoc (decimal (m / 1000000)) (codes ".") (six_digits (m % 1000000))

pub millionths_text-negsuc : (m : ℕ) → millionths_text (negsuc m) ≡ 45 ∷ (decimal (suc m / 1000000) ++ 46 ∷ six_digits (suc m % 1000000))
unfolding millionths_text
millionths_text-negsuc m = ap (λ t. 45 ∷ t) (append_assoc (decimal (suc m / 1000000)) (codes ".") (six_digits (suc m % 1000000)))

-- the whole part is a numeral
pub whole-numeral : (m : ℕ) → m < 10 ^ 64 → IsNumeral 10 (decimal (m / 1000000)) × (digits_value 10 (decimal (m / 1000000)) ≡ m / 1000000)
whole-numeral m h = decimal_is_IsNumeral_wide (m / 1000000) (omega arith)

pub size-value : (m : ℕ) → m < 10 ^ 64 → unsigned_millionths (decimal (m / 1000000) ++ 46 ∷ six_digits (m % 1000000)) ≡ m
size-value m h =
    unsigned-digits (decimal (m / 1000000)) (six_digits (m % 1000000)) (whole-numeral m h).0.1
    ∙ ap (λ k. 1000000 * k + digits_value 10 (six_digits (m % 1000000))) (whole-numeral m h).1
    ∙ ap (λ k. 1000000 * (m / 1000000) + k) (six_digits-value (m % 1000000) (mod-lt m (lit< tt)))
    ∙ omega arith

pub read-millionths_text : (z : ℤ) → unsigned_abs z < 10 ^ 64 → read_millionths (millionths_text z) ≡ z
read-millionths_text (pos m) h =
    ap read_millionths (millionths_text-pos m)
    ∙ read-digits (decimal (m / 1000000)) (six_digits (m % 1000000)) (whole-numeral m h).0.1 (whole-numeral m h).0.0
    ∙ ap pos (size-value m h)
read-millionths_text (negsuc m) h =
    ap read_millionths (millionths_text-negsuc m)
    ∙ read-minus (decimal (suc m / 1000000) ++ 46 ∷ six_digits (suc m % 1000000))
    ∙ ap (λ k. neg_ℤ (pos k)) (size-value (suc m) h)

pub six_places : (z : ℤ) → unsigned_abs z < 10 ^ 64 → length (after_point (millionths_text z)) ≡ 6
six_places (pos m) h =
    ap (λ t. length (after_point t)) (millionths_text-pos m)
    ∙ ap length (after_point-digits (decimal (m / 1000000)) (six_digits (m % 1000000)) (whole-numeral m h).0.1)
six_places (negsuc m) h =
    ap (λ t. length (after_point t)) (millionths_text-negsuc m)
    ∙ ap length (after_point-minus (decimal (suc m / 1000000) ++ 46 ∷ six_digits (suc m % 1000000)))
    ∙ ap length (after_point-digits (decimal (suc m / 1000000)) (six_digits (suc m % 1000000)) (whole-numeral (suc m) h).0.1)

pub zero-text : (z : ℤ) → z ≡ pos 0 → millionths_text z ≡ codes "0.000000"
unfolding millionths_text digits
zero-text z e = ap millionths_text e

-- ---- the rounded number
pub unsigned_abs-positive : (d : ℤ) → pos 0 <ℤ d → 0 < unsigned_abs d
unsigned_abs-positive d h = omega (arith, ints)

pub millionths-size : (n d : ℤ) → unsigned_abs (millionths (pair n d)) ≡ nearest (1000000 * unsigned_abs n) (unsigned_abs d)
unfolding millionths
millionths-size n d = unsigned_abs-signed_by n (nearest (1000000 * unsigned_abs n) (unsigned_abs d))

pub nearest-bound : (n d : ℕ) → 0 < d → n < 2 ^ 127 → nearest (1000000 * n) d < 10 ^ 64
nearest-bound n d p h = div_below (2 * (1000000 * n) + d) (2 * d) (10 ^ 64) (omega arith) (omega arith)

pub millionths-bound : (n d : ℤ) → InRange n → pos 0 <ℤ d → unsigned_abs (millionths (pair n d)) < 10 ^ 64
millionths-bound n d h p =
    let e : unsigned_abs (millionths (pair n d)) ≡ nearest (1000000 * unsigned_abs n) (unsigned_abs d) = millionths-size n d in
    let b : nearest (1000000 * unsigned_abs n) (unsigned_abs d) < 10 ^ 64 = nearest-bound (unsigned_abs n) (unsigned_abs d) (unsigned_abs-positive d p) h in
    omega arith

-- the nearest whole number, multiplied out
cross : (q r n d : ℕ) → q * (2 * d) + r ≡ 2 * n + d → r < 2 * d → (2 * (q * d) ≤ 2 * n + d) × (2 * n + d < 2 * (q * d) + 2 * d)
cross q r n d e l = (omega arith, omega arith)

pub nearest-cross : (n d : ℕ) → 0 < d → (2 * (nearest n d * d) ≤ 2 * n + d) × (2 * n + d < 2 * (nearest n d * d) + 2 * d)
nearest-cross n d h =
    let w : 0 < 2 * d = omega arith in
    let e : (2 * n + d) / (2 * d) * (2 * d) + (2 * n + d) % (2 * d) ≡ 2 * n + d = div-add-mod' (2 * n + d) (2 * d) in
    let l : (2 * n + d) % (2 * d) < 2 * d = mod-lt (2 * n + d) w in
    cross ((2 * n + d) / (2 * d)) ((2 * n + d) % (2 * d)) n d e l

both_negative : (a b : ℤ) → unsigned_abs (neg_ℤ a -ℤ neg_ℤ b) ≡ unsigned_abs (a -ℤ b)
both_negative a b = omega (arith, ints)

-- the distance of a number of millionths from the numerator, over the sizes
distance : (n d : ℤ) (m : ℕ) → pos 0 <ℤ d → unsigned_abs (signed_by n (pos m) *ℤ d -ℤ pos 1000000 *ℤ n) ≡ unsigned_abs (pos (m * unsigned_abs d) -ℤ pos (1000000 * unsigned_abs n))
distance n (negsuc d) m h = absurd (omega arith)
distance (pos n) (pos d) m h = refl
distance (negsuc n) (pos d) m h =
    ap (λ z. unsigned_abs (z -ℤ neg_ℤ (pos (1000000 * suc n)))) (neg_ℤ-*ℤ (pos m) (pos d))
    ∙ both_negative (pos (m * d)) (pos (1000000 * suc n))

within : (a b d : ℕ) → 2 * a ≤ 2 * b + d → 2 * b + d < 2 * a + 2 * d → 2 * unsigned_abs (pos a -ℤ pos b) ≤ d
within a b d h l = omega (arith, ints)

away : (a b d : ℕ) → 2 * b + d < 2 * a + 2 * d → 2 * unsigned_abs (pos a -ℤ pos b) ≡ d → b < a
away a b d l e = omega (arith, ints)

pub near : (n d : ℤ) → pos 0 <ℤ d → 2 * unsigned_abs (millionths (pair n d) *ℤ d -ℤ pos 1000000 *ℤ n) ≤ unsigned_abs d
unfolding millionths
near n d h =
    let m : ℕ = nearest (1000000 * unsigned_abs n) (unsigned_abs d) in
    let x : (2 * (m * unsigned_abs d) ≤ 2 * (1000000 * unsigned_abs n) + unsigned_abs d) × (2 * (1000000 * unsigned_abs n) + unsigned_abs d < 2 * (m * unsigned_abs d) + 2 * unsigned_abs d) =
    nearest-cross (1000000 * unsigned_abs n) (unsigned_abs d) (unsigned_abs-positive d h) in
    let e : unsigned_abs (signed_by n (pos m) *ℤ d -ℤ pos 1000000 *ℤ n) ≡ unsigned_abs (pos (m * unsigned_abs d) -ℤ pos (1000000 * unsigned_abs n)) = distance n d m h in
    rw e (within (m * unsigned_abs d) (1000000 * unsigned_abs n) (unsigned_abs d) x.0 x.1)

-- of two that are as near the one that is larger in size
pub tie : (n d : ℤ) → pos 0 <ℤ d → 2 * unsigned_abs (millionths (pair n d) *ℤ d -ℤ pos 1000000 *ℤ n) ≡ unsigned_abs d → 1000000 * unsigned_abs n < unsigned_abs (millionths (pair n d)) * unsigned_abs d
unfolding millionths
tie n d h t =
    let m : ℕ = nearest (1000000 * unsigned_abs n) (unsigned_abs d) in
    let x : (2 * (m * unsigned_abs d) ≤ 2 * (1000000 * unsigned_abs n) + unsigned_abs d) × (2 * (1000000 * unsigned_abs n) + unsigned_abs d < 2 * (m * unsigned_abs d) + 2 * unsigned_abs d) =
    nearest-cross (1000000 * unsigned_abs n) (unsigned_abs d) (unsigned_abs-positive d h) in
    let e : unsigned_abs (signed_by n (pos m) *ℤ d -ℤ pos 1000000 *ℤ n) ≡ unsigned_abs (pos (m * unsigned_abs d) -ℤ pos (1000000 * unsigned_abs n)) = distance n d m h in
    rw (unsigned_abs-signed_by n m) (away (m * unsigned_abs d) (1000000 * unsigned_abs n) (unsigned_abs d) x.1 (ap (λ k. 2 * k) (sym e) ∙ t))

pub below-numerals : (n : ℕ) → n < 2 ^ 127 → n < 10 ^ 64
below-numerals n h = omega arith
