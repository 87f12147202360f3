-- What a short decimal without a sign and a power of ten reads as.
use Rattle.mathprog_data.proofs.Common.{◌≡◌, ℕ, ◌+◌, ◌*◌, ◌<◌, ◌≤◌, ◌^◌, pos, true, false, List, [], ◌∷◌, ◌++◌, length, get_or, slice_range, Option, Some, None, sym, refl, ap, ap₂, ◌∙◌, subst, arith, append-nil, mul_assoc, mul-le-mul, eq-eqb, mantissa, raised, lowered, AreDigits, number_of, continued, decimal_from, continued-zero, continued-append, ten_pos, reading}
use Rattle.std.proofs.lemmas.Int.{ints}
use Rattle.exact_num.specs.Range.{InRange}
use Rattle.scaled_decimals.specs.NumberText.{NumberText, Bare, Spells, fraction_bytes, fraction_digits}
use Rattle.scaled_decimals.specs.Rounding.{nearest}
use Rattle.scaled_decimals.proofs.RatioLemmas.{nearest-whole, ratio_within}
use Rattle.mathprog_data.proofs.NumberReadingLaws.{Reads-reading}
use Rattle.mathprog_data.proofs.TokenRunLemmas.{rest_of}

abbrev short : List ℕ → Option (List ℕ) → NumberText
short whole fraction = record { sign = Bare; whole = whole; fraction = fraction; exponent = None }

-- digits, and perhaps a point with digits after it, are the number of all digits, of which the last counts `factor` billionths
pub short_reading : (text whole : List ℕ) (fraction : Option (List ℕ)) (number factor : ℕ)
    → text ≡ whole ++ fraction_bytes fraction → AreDigits whole → AreDigits (fraction_digits fraction) → 0 < length whole
    → number ≡ continued (continued 0 whole) (fraction_digits fraction) → number ≤ 1000000255
    → factor * 10 ^ length (fraction_digits fraction) ≡ 10 ^ 9
    → reading text ≡ Some (pos (number * factor), false)
unfolding number_of
short_reading text whole fraction number factor bytes before beyond some is few counts =
    let p = short whole fraction in
    let places = fraction_digits fraction in
    let d = 10 ^ length places in
    let spells : Spells p text = record {
      formed = record { before = before; following = beyond; nonempty = omega (arith, some); power = tt };
      bytes = bytes ∙ ap (λ x. whole ++ x) (sym (append-nil (fraction_bytes fraction)));
    } in
    let all : mantissa p ≡ number = sym (continued-zero (whole ++ places)) ∙ continued-append 0 whole places ∙ sym is in
    let top : mantissa p * 10 ^ 9 ≡ number * factor * d =
    ap (λ n. n * 10 ^ 9) all ∙ ap (λ x. number * x) (sym counts) ∙ sym (mul_assoc number factor d) in
    let near : nearest (mantissa p * 10 ^ 9) d ≡ number * factor =
    ap (λ n. nearest n d) top ∙ nearest-whole (number * factor) d (ten_pos (length places)) in
    let small : number * 10 ^ 9 ≤ 10 ^ 24 * d = omega (arith, few, ten_pos (length places)) in
    let within : mantissa p * 10 ^ 9 ≤ 10 ^ 24 * d = subst (λ n. n * 10 ^ 9 ≤ 10 ^ 24 * d) (sym all) small in
    let up : 9 ≡ 9 + raised p = refl in
    let down : length places ≡ lowered p = omega arith in
    Reads-reading text (pos (number * factor), false) (
      p,
      spells,
      sym (decimal_from p false 9 (length places) refl up down)
          ∙ ratio_within false (mantissa p * 10 ^ 9) d (number * factor) true within near (eq-eqb (number * factor * d) (mantissa p * 10 ^ 9) (sym top)),
    )

-- a text that begins with a point, and what follows
pub point_first : (rest : List ℕ) → 0 < length rest → get_or rest 0 0 ≡ 46 → rest ≡ 46 ∷ slice_range rest 1 (length rest)
point_first [] some e = absurd (omega (arith, some))
point_first (c ∷ cs) some e = ap₂ (λ x y. x ∷ y) e (sym (rest_of (c ∷ cs) 1))

-- it fits
pub short_range : (number factor : ℕ) → number ≤ 1000000255 → factor ≤ 10 ^ 9 → InRange (pos (number * factor))
short_range number factor few most =
    let product : number * factor ≤ 1000000255 * 10 ^ 9 = mul-le-mul few most in
    omega (arith, ints, product)
