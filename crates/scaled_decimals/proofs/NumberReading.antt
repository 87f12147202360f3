-- The number that is found of a text is the one that spells it, so that what is read of a text is a function of it.
use Rattle.scaled_decimals.proofs.Common.{◌≡◌, ◌∙◌, ℕ, ◌+◌, ◌<◌, ℤ, List, [], ◌∷◌, ◌++◌, length, Option, Some, None, Result, Ok, Err, Bool, true, false, cond, eqb, ltb, refl, sym, ap, ap₂, arith, subst, eqb-true, lt-ltb, DecFault, NotNumber, TooLarge, Reads, billionths, decimal_of, is_rounded, with_sign, IsNumeral, Exponent, IsExponent, NumberText, Spells, exponent_bytes, fraction_digits, is_minus, mark, sign_bytes, after_digits, digits_in_front}
use Rattle.std.proofs.lemmas.Bool.{and_parts, ltb-true}
use Rattle.std.specs.Option.{option_map_or}
use Rattle.std.specs.Prelude.{◌&&◌, option_map}
use Rattle.std.specs.Str.{all_ascii_digits}
use Rattle.scaled_decimals.proofs.TextLemmas as texts
use Rattle.scaled_decimals.specs.NumberReading.{NumbersAreFound, after_fraction, after_sign, fraction_in_front, has_digit, is_numeral, number_in, number_with, power_after, power_in, sign_in_front}
unfoldable use Rattle.scaled_decimals.specs.NumberReading.{decimal_in}

-- ---- powers of ten

numeral_is : (ds : List ℕ) → is_numeral ds ≡ true → IsNumeral ds
numeral_is ds e = let parts = and_parts (ltb 0 (length ds)) (all_ascii_digits ds) e in (ltb-true 0 (length ds) parts.0, parts.1)

is_numeral_of : (ds : List ℕ) → IsNumeral ds → is_numeral ds ≡ true
is_numeral_of ds is = ap₂ (λ a b. a && b) (lt-ltb 0 (length ds) is.0) is.1

abbrev IsPowerOf : List ℕ → Option Exponent → Type 0
IsPowerOf text e = IsExponent e × (text ≡ exponent_bytes e)

power_after_is : (c : ℕ) (text : List ℕ) (capital : Bool) (e : Option Exponent) → c ≡ mark capital → power_after capital text ≡ Some e → IsPowerOf (c ∷ text) e
power_after_is c text capital e is found = go (is_numeral (after_sign text)) refl found
  where
    made : Exponent
    made = record { capital = capital; sign = sign_in_front text; digits = after_sign text }

    go : (b : Bool) → is_numeral (after_sign text) ≡ b → cond b (Some (Some made)) None ≡ Some e → IsPowerOf (c ∷ text) e
    go true numeral same =
        let it : Some made ≡ e = cc in
        subst (IsPowerOf (c ∷ text)) it (numeral_is (after_sign text) numeral, ap₂ (λ k ks. k ∷ ks) is (texts.sign-bytes text))
    go false numeral same = absurd cc

power_is : (text : List ℕ) (e : Option Exponent) → power_in text ≡ Some e → IsPowerOf text e
power_is [] e found = let it : None ≡ e = cc in subst (IsPowerOf []) it (tt, refl)
power_is (c ∷ text) e found = go (eqb c 101) (eqb c 69) refl refl found
  where
    go : (small capital : Bool) → eqb c 101 ≡ small → eqb c 69 ≡ capital → cond small (power_after false text) (cond capital (power_after true text) None) ≡ Some e → IsPowerOf (c ∷ text) e
    go true capital is isnt found = power_after_is c text false e (eqb-true c 101 is) found
    go false true isnt is found = power_after_is c text true e (eqb-true c 69 is) found
    go false false isnt aint found = absurd cc

after_of : (e : Exponent) → IsNumeral e.digits → power_after e.capital (sign_bytes e.sign ++ e.digits) ≡ Some (Some e)
after_of e is =
    let unsigned = texts.IsUnsigned-numeral e.digits is in
    let digits : after_sign (sign_bytes e.sign ++ e.digits) ≡ e.digits = texts.after_sign-of e.sign e.digits unsigned in
    let sign : sign_in_front (sign_bytes e.sign ++ e.digits) ≡ e.sign = texts.sign_of-bytes e.sign e.digits unsigned in
    let yes : is_numeral (after_sign (sign_bytes e.sign ++ e.digits)) ≡ true = ap is_numeral digits ∙ is_numeral_of e.digits is in
    ap (λ b. cond b (Some (Some (record { capital = e.capital; sign = sign_in_front (sign_bytes e.sign ++ e.digits); digits = after_sign (sign_bytes e.sign ++ e.digits) }))) None) yes
    ∙ ap₂ (λ s ds. Some (Some (record { capital = e.capital; sign = s; digits = ds }))) sign digits

power_of : (e : Option Exponent) → IsExponent e → power_in (exponent_bytes e) ≡ Some e
power_of None is = refl
power_of (Some e) is = go e.capital refl
  where
    rest : List ℕ
    rest = sign_bytes e.sign ++ e.digits

    go : (capital : Bool) → e.capital ≡ capital → power_in (mark e.capital ∷ rest) ≡ Some (Some e)
    go true is_capital = ap (λ b. power_in (mark b ∷ rest)) is_capital ∙ (ap (λ b. power_after b rest) (sym is_capital) ∙ after_of e is)
    go false is_small = ap (λ b. power_in (mark b ∷ rest)) is_small ∙ (ap (λ b. power_after b rest) (sym is_small) ∙ after_of e is)

-- ---- numbers

abbrev end_of : List ℕ → List ℕ
end_of text = after_fraction (after_digits (after_sign text))

number_is : (text : List ℕ) (p : NumberText) → number_in text ≡ Some p → Spells p text
number_is text p found = go (has_digit (number_with text None)) (power_in (end_of text)) refl refl found
  where
    go : (some : Bool) (power : Option (Option Exponent)) → has_digit (number_with text None) ≡ some → power_in (end_of text) ≡ power
        → cond some (option_map (number_with text) power) None ≡ Some p → Spells p text
    go true (Some e) some power same =
        let is = power_is (end_of text) e power in
        let it : number_with text e ≡ p = cc in
        let digits : 0 < length (digits_in_front (after_sign text)) + length (fraction_digits (fraction_in_front (after_digits (after_sign text)))) = ltb-true 0 _ some in
        let places = texts.fraction_digits-of (after_digits (after_sign text)) in
        subst (λ (q : NumberText). Spells q text) it (texts.Spells-at text e (omega (arith, digits, ap length places)) is.0 is.1)
    go true None some power same = absurd cc
    go false power some found same = absurd cc

number_of_spelled : (text : List ℕ) (p : NumberText) → Spells p text → number_in text ≡ Some p
number_of_spelled text p is =
    let cut = texts.IsCut-of p text is in
    let some : has_digit (number_with text None) ≡ true =
    ap₂ (λ ds f. ltb 0 (length ds + length (fraction_digits f))) cut.whole cut.fraction ∙ lt-ltb 0 (length p.whole + length (fraction_digits p.fraction)) is.formed.nonempty in
    let power : power_in (end_of text) ≡ Some p.exponent = ap power_in cut.end ∙ power_of p.exponent is.formed.power in
    let same : number_with text p.exponent ≡ p = λ i. record { sign = cut.sign i; whole = cut.whole i; fraction = cut.fraction i; exponent = p.exponent } in
    ap₂ (λ b e. cond b (option_map (number_with text) e) None) some power ∙ ap Some same

pub numbers_are_found : NumbersAreFound
numbers_are_found text p = (number_is text p, number_of_spelled text p)

-- ---- what is read

pub decimal_reads : (text : List ℕ) (r : Result (ℤ × Bool) DecFault) → Reads text r → r ≡ decimal_in text
unfolding decimal_in
decimal_reads text (Ok v) (p, spells, is) = sym (ap (λ q. option_map_or decimal_of q (Err NotNumber)) (number_of_spelled text p spells) ∙ is)
decimal_reads text (Err TooLarge) (p, spells, above) =
    let is : decimal_of p ≡ Err TooLarge = ap (λ b. cond b (Err TooLarge) (Ok (with_sign (is_minus p.sign) (billionths p), is_rounded p))) above in
    sym (ap (λ q. option_map_or decimal_of q (Err NotNumber)) (number_of_spelled text p spells) ∙ is)
decimal_reads text (Err NotNumber) none = go (number_in text) refl
  where
    go : (found : Option NumberText) → number_in text ≡ found → Err NotNumber ≡ option_map_or decimal_of found (Err NotNumber)
    go None is = refl
    go (Some p) is = absurd (none p (number_is text p is))
