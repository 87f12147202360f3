-- A fraction's printed text reads as that fraction.
use Rattle.scaled_decimals.proofs.Common.{◌≡◌, ℕ, ◌+◌, ◌-◌, ◌*◌, ◌^◌, ◌<◌, ℤ, pos, negsuc, List, [], ◌∷◌, ◌++◌, true, false, Bool, suc, sym, refl, ap, ap₂, ◌∙◌, arith, subst, Result, Ok, Err, append-nil, digit_value, is_ascii_digit, signed_decimal, IsInRange, AllDigits, digits_value_after, false≢true, eqb-true, nat_tests, decimal_is_IsNumeral_wide, ints, digit_value_digit, digit_from_value, all_fit, Rational, lowest, value_of, Frac, DecFault, NotNumber, TooLarge, with_sign, AreDigits, IsNumeral, number_of, continued, ReadsValue, Form, Whole, Quotient, FractionText, IsFormed, SpellsValue, form_bytes, above_of, below_of, top_of, bottom_of, fraction_text}
use Rattle.std.specs.Prelude.{unsigned_abs, ◌==◌, if◌then◌else◌, codes, decimal, ◌<ℤ◌}
use Rattle.exact_num.proofs.RationalLaws.{lowest-self}
use Rattle.exact_num.proofs.ValueLaws.{value_of-IsLowest}
use Rattle.scaled_decimals.specs.PrintedParts.{is_negative, printed_form, printed_parts, IsValue}
use Rattle.scaled_decimals.proofs.DigitLemmas.{AreDigits-cons, continued-none, continued-cons, continued-zero}
use Rattle.scaled_decimals.proofs.FractionLemmas.{fit_both}
use Rattle.scaled_decimals.proofs.PrintedLaws.{below-numerals}
use Rattle.scaled_decimals.proofs.ValueTextLemmas.{one_value_way}

-- ---- printed digits
digit-flag : (c : ℕ) → digit_value c < 10 → is_ascii_digit c ≡ true
digit-flag c h = let r : IsInRange 48 57 c = digit_from_value c h in grind (arith, nat_tests)

all-digits : (ds : List ℕ) → AllDigits 10 ds → AreDigits ds
all-digits [] h = refl
all-digits (c ∷ cs) h = AreDigits-cons c cs (digit-flag c h.0) (all-digits cs h.1)

digit-size : (c : ℕ) → digit_value c < 10 → digit_value c ≡ c - 48
digit-size c h = let e : digit_value c + 48 ≡ c = digit_value_digit c (digit_from_value c h) in omega arith

value-after : (n : ℕ) (ds : List ℕ) → AllDigits 10 ds → digits_value_after 10 n ds ≡ continued n ds
value-after n [] h = sym (continued-none n)
value-after n (c ∷ cs) h =
    ap (λ d. digits_value_after 10 (n * 10 + d) cs) (digit-size c h.0)
    ∙ value-after (n * 10 + (c - 48)) cs h.1
    ∙ sym (continued-cons n c cs)

decimal-numeral : (n : ℕ) → n < 2 ^ 127 → IsNumeral (decimal n)
decimal-numeral n h = let e = decimal_is_IsNumeral_wide n (below-numerals n h) in (e.0.0, all-digits (decimal n) e.0.1)

decimal-number : (n : ℕ) → n < 2 ^ 127 → number_of (decimal n) ≡ n
decimal-number n h =
    let e = decimal_is_IsNumeral_wide n (below-numerals n h) in
    sym (continued-zero (decimal n)) ∙ sym (value-after 0 (decimal n) e.0.1) ∙ e.1

-- ---- the parts of a printed fraction
abbrev form_when : Bool → ℕ → ℕ → Form
form_when b n d = if b then Whole (decimal n) else Quotient (decimal n) (decimal d)

bytes-when : (b : Bool) (z : ℤ) (d : ℕ) → signed_decimal z ++ (if b then [] else codes "/" ++ decimal d) ≡ (if is_negative z then 45 ∷ [] else []) ++ form_bytes (form_when b (unsigned_abs z) d)
bytes-when true (pos n) d = append-nil (decimal n)
bytes-when true (negsuc n) d = append-nil (45 ∷ decimal (suc n))
bytes-when false (pos n) d = refl
bytes-when false (negsuc n) d = refl

bytes-are : (x : Rational) → fraction_text x ≡ (if is_negative x.top then 45 ∷ [] else []) ++ form_bytes (printed_form (unsigned_abs x.top) (unsigned_abs x.bottom))
unfolding fraction_text
bytes-are x = bytes-when (unsigned_abs x.bottom == 1) x.top (unsigned_abs x.bottom)

formed-when : (b : Bool) (n d : ℕ) → n < 2 ^ 127 → d < 2 ^ 127 → IsFormed (form_when b n d)
formed-when true n d h k = decimal-numeral n h
formed-when false n d h k = (decimal-numeral n h, decimal-numeral d k)

above-when : (b : Bool) (n d : ℕ) → n < 2 ^ 127 → above_of (form_when b n d) ≡ n
above-when true n d h = decimal-number n h
above-when false n d h = decimal-number n h

below-when : (b : Bool) (n d : ℕ) → d < 2 ^ 127 → (d == 1) ≡ b → below_of (form_when b n d) ≡ d
below-when true n d k e = sym (eqb-true d 1 e)
below-when false n d k e = decimal-number d k

above-is : (n d : ℕ) → n < 2 ^ 127 → above_of (printed_form n d) ≡ n
above-is n d h = above-when (d == 1) n d h

below-is : (n d : ℕ) → d < 2 ^ 127 → below_of (printed_form n d) ≡ d
below-is n d k = below-when (d == 1) n d k refl

sign-again : (z : ℤ) → with_sign (is_negative z) (unsigned_abs z) ≡ z
sign-again (pos n) = refl
sign-again (negsuc n) = refl

size-again : (z : ℤ) → pos 0 <ℤ z → pos (unsigned_abs z) ≡ z
size-again z h = omega (arith, ints)

top-is : (v : Frac) → top_of (printed_parts (value_of v)) ≡ v.num
top-is v = ap (with_sign (is_negative v.num)) (above-is (unsigned_abs v.num) (unsigned_abs v.den) v.num_fits) ∙ sign-again v.num

bottom-is : (v : Frac) → bottom_of (printed_parts (value_of v)) ≡ v.den
bottom-is v = ap pos (below-is (unsigned_abs v.num) (unsigned_abs v.den) v.den_fits) ∙ size-again v.den v.positive

bottom-nonzero : (v : Frac) → below_of (printed_parts (value_of v)).form ≡ 0 → ⊥
bottom-nonzero v e =
    let same : below_of (printed_parts (value_of v)).form ≡ unsigned_abs v.den = below-is (unsigned_abs v.num) (unsigned_abs v.den) v.den_fits in
    let above : pos 0 <ℤ v.den = v.positive in
    omega (arith, ints)

pub spelled : (v : Frac) → SpellsValue (printed_parts (value_of v)) (fraction_text (value_of v))
spelled v =
    record {
      formed = formed-when (unsigned_abs v.den == 1) (unsigned_abs v.num) (unsigned_abs v.den) v.num_fits v.den_fits;
      bytes = bytes-are (value_of v);
      nonzero = bottom-nonzero v;
    }

-- ---- what the text reads as
parts_are : (v : Frac) (f : FractionText) → SpellsValue f (fraction_text (value_of v)) → f ≡ printed_parts (value_of v)
parts_are v f h = one_value_way (fraction_text (value_of v)) f (printed_parts (value_of v)) h (spelled v)

parts_fit : (v : Frac) → all_fit (top_of (printed_parts (value_of v)) ∷ bottom_of (printed_parts (value_of v)) ∷ []) ≡ true
parts_fit v =
    let n : unsigned_abs v.num < 2 ^ 127 = v.num_fits in
    let d : unsigned_abs v.den < 2 ^ 127 = v.den_fits in
    let above : above_of (printed_parts (value_of v)).form ≡ unsigned_abs v.num = above-is (unsigned_abs v.num) (unsigned_abs v.den) n in
    let below : below_of (printed_parts (value_of v)).form ≡ unsigned_abs v.den = below-is (unsigned_abs v.num) (unsigned_abs v.den) d in
    fit_both (is_negative v.num) (above_of (printed_parts (value_of v)).form) (below_of (printed_parts (value_of v)).form) (rw above n) (rw below d)

pub inverse : (v : Frac) (answer : Result Frac DecFault) → ReadsValue (fraction_text (value_of v)) answer → IsValue (value_of v) answer
inverse v (Ok w) h =
    let parts : h.0 ≡ printed_parts (value_of v) = parts_are v h.0 h.1 in
    (w, refl, h.3 ∙ ap (λ f. lowest (top_of f) (bottom_of f)) parts ∙ ap₂ lowest (top-is v) (bottom-is v) ∙ lowest-self (value_of v) (value_of-IsLowest v))
inverse v (Err TooLarge) h =
    let parts : h.0 ≡ printed_parts (value_of v) = parts_are v h.0 h.1 in
    absurd (false≢true (sym h.2 ∙ ap (λ f. all_fit (top_of f ∷ bottom_of f ∷ [])) parts ∙ parts_fit v))
inverse v (Err NotNumber) h = absurd (h (printed_parts (value_of v)) (spelled v))

-- the number that the parts of a printed text write
pub distinct : (v w : Frac) → fraction_text (value_of v) ≡ fraction_text (value_of w) → value_of v ≡ value_of w
distinct v w e =
    let P : List ℕ → Type 0 = λ t. SpellsValue (printed_parts (value_of v)) t in
    let parts : printed_parts (value_of v) ≡ printed_parts (value_of w) = parts_are w (printed_parts (value_of v)) (subst P e (spelled v)) in
    let pair_of : ℤ → ℤ → Rational = λ n d. record { top = n; bottom = d } in
    ap₂ pair_of (sym (top-is v) ∙ ap top_of parts ∙ top-is w) (sym (bottom-is v) ∙ ap bottom_of parts ∙ bottom-is w)
