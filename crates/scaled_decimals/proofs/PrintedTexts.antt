-- The printed forms as the pieces that are written.
use Rattle.scaled_decimals.proofs.Common.{◌≡◌, ◌≢◌, ℕ, ◌+◌, ◌*◌, ◌/◌, ◌%◌, ◌<◌, ℤ, pos, negsuc, ◌<ℤ◌, List, [], ◌++◌, refl, sym, ap, ◌∙◌, arith, append_assoc, append-nil, to_z, of_z, zero, suc, div-mul-add, mod-mul-add, nat_tests, w128, signed_decimal, InRange, pair, signed_by, back_in_range, fraction_text, denominator_text, millionths, millionths_text, places_text, sign_of, six_digits, nearest}
use Rattle.std.specs.Prelude.{Result, Ok, Err, OnOk, is_ok, unsigned_abs, codes, decimal, if◌then◌else◌, ◌==◌, false}

-- what was appended is the text that is due
pub OnOk-appended : {T E : Type 0} (r : Result T E) (new old written due : List ℕ) → new ≡ (if is_ok r then old ++ written else old) → written ≡ due → OnOk r (new ≡ old ++ due)
OnOk-appended (Ok x) new old written due e f = e ∙ ap (λ t. old ++ t) f
OnOk-appended (Err x) new old written due e f = tt

pub OnOk-same : {T E : Type 0} (r : Result T E) (new old written due : List ℕ) → OnOk r (new ≡ old ++ written) → written ≡ due → OnOk r (new ≡ old ++ due)
OnOk-same (Ok x) new old written due e f = e ∙ ap (λ t. old ++ t) f
OnOk-same (Err x) new old written due e f = tt

-- what a program's test of a denominator says
pub one-from_test : (d : ℤ) → InRange d → of_z w128 d ≡ 1 → d ≡ pos 1
one-from_test d h e = sym (back_in_range d h) ∙ ap (λ n. to_z w128 n) e

pub not_one-from_test : (d : ℤ) → of_z w128 d ≢ 1 → d ≢ pos 1
not_one-from_test d h e = h (ap (λ z. of_z w128 z) e)

-- a whole number
pub fraction_text-whole : (n d : ℤ) → d ≡ pos 1 → fraction_text (pair n d) ≡ signed_decimal n
unfolding fraction_text
fraction_text-whole n d e =
    ap (λ z. signed_decimal n ++ denominator_text (unsigned_abs z)) e ∙ append-nil (signed_decimal n)

-- any other number
pub denominator_text-other : (d : ℕ) → d ≢ 1 → denominator_text d ≡ codes "/" ++ decimal d
denominator_text-other d h =
    let e : (d == 1) ≡ false = grind (arith, nat_tests) in
    ap (λ b. if b then [] else codes "/" ++ decimal d) e

pub fraction_text-quotient : (n d : ℤ) → pos 0 <ℤ d → d ≢ pos 1 → fraction_text (pair n d) ≡ signed_decimal n ++ codes "/" ++ signed_decimal d
unfolding fraction_text
fraction_text-quotient n (pos d) p h =
    ap (λ t. signed_decimal n ++ t) (denominator_text-other d (λ e. h (ap pos e))) ∙ sym (append_assoc (signed_decimal n) (codes "/") (decimal d))
fraction_text-quotient n (negsuc d) p h = absurd (omega arith)

-- the sign doesn't change the size
pub unsigned_abs-signed_by : (n : ℤ) (m : ℕ) → unsigned_abs (signed_by n (pos m)) ≡ m
unsigned_abs-signed_by (pos n) m = refl
unsigned_abs-signed_by (negsuc n) zero = refl
unsigned_abs-signed_by (negsuc n) (suc m) = refl

-- the pieces of a number of millionths
pub millionths_text-pieces : (n : ℤ) (whole part : ℕ) → part < 1000000
    → millionths_text (signed_by n (pos (1000000 * whole + part))) ≡ sign_of (signed_by n (pos (1000000 * whole + part))) ++ decimal whole ++ (codes "." ++ six_digits part)
unfolding millionths_text
millionths_text-pieces n whole part h =
    let z : ℤ = signed_by n (pos (1000000 * whole + part)) in
    let a : unsigned_abs z ≡ whole * 1000000 + part = unsigned_abs-signed_by n (1000000 * whole + part) ∙ omega arith in
    let w : unsigned_abs z / 1000000 ≡ whole = ap (λ k. k / 1000000) a ∙ div-mul-add whole 1000000 part h in
    let p : unsigned_abs z % 1000000 ≡ part = ap (λ k. k % 1000000) a ∙ mod-mul-add whole 1000000 part h in
    append_assoc (sign_of z ++ decimal (unsigned_abs z / 1000000)) (codes ".") (six_digits (unsigned_abs z % 1000000))
    ∙ ap (λ k. sign_of z ++ decimal k ++ (codes "." ++ six_digits (unsigned_abs z % 1000000))) w
    ∙ ap (λ k. sign_of z ++ decimal whole ++ (codes "." ++ six_digits k)) p

-- the pieces of a number with six places
pub places_text-pieces : (n d : ℤ) (whole part : ℕ) → part < 1000000 → 1000000 * whole + part ≡ nearest (1000000 * unsigned_abs n) (unsigned_abs d) → (s w p : List ℕ) → s ≡ sign_of (signed_by n (pos (1000000 * whole + part))) → w ≡ decimal whole → p ≡ codes "." ++ six_digits part → s ++ w ++ p ≡ places_text (pair n d)
unfolding millionths
places_text-pieces n d whole part h e s w p is_sign is_whole is_part =
    let z : ℤ = signed_by n (pos (1000000 * whole + part)) in
    ap (λ t. t ++ w ++ p) is_sign
    ∙ ap (λ t. sign_of z ++ t ++ p) is_whole
    ∙ ap (λ t. sign_of z ++ decimal whole ++ t) is_part
    ∙ sym (millionths_text-pieces n whole part h)
    ∙ ap (λ k. millionths_text (signed_by n (pos k))) e
