-- Numbers as they are printed, and names made of a letter and a number: they are words, and are read back.
use Rattle.std.proofs.Common.{◌≡◌, ℕ, suc, ◌<◌, ◌^◌, Bool, true, false, List, [], ◌∷◌, Some, refl, ap, sym, ◌∙◌, arith, eqb-true, lt-ltb, ◌==◌}
use Rattle.std.specs.Prelude.{ℤ, pos, negsuc, neg_ℤ, unsigned_abs}
use Rattle.std.specs.Char.{digit_value}
use Rattle.std.specs.Fmt.{decimal, signed_decimal}
use Rattle.std.specs.List.{AllByRecursion, list_all}
use Rattle.std.specs.Str.Parse.{AllDigits, IsNumeral, digits_value, without_leading_sign, starts_with_minus}
use Rattle.std.proofs.lemmas.Fmt.{decimal_is_IsNumeral_wide}
use Rattle.mps_meaning.specs.Lines.{Name}
use Rattle.mps_meaning.specs.Statements.{is_digit, is_numeral, number_of}
use Rattle.mps_meaning.proofs.LineLaws.{IsInWord, IsWord}

-- ---- digits

-- a test that no digit passes, as it passes only one byte that is none
none-such : (byte other : ℕ) → digit_value other ≡ 36 → digit_value byte < 10 → (b : Bool) → (byte == other) ≡ b → b ≡ false
none-such byte other is digit false e = refl
none-such byte other is digit true e =
    let same : byte ≡ other = eqb-true byte other e in
    absurd (omega (arith, ap digit_value same))

in_word-digit : (byte : ℕ) → digit_value byte < 10 → IsInWord byte
in_word-digit byte digit =
    let space : (byte == 32) ≡ false = none-such byte 32 refl digit (byte == 32) refl in
    let tab : (byte == 9) ≡ false = none-such byte 9 refl digit (byte == 9) refl in
    (rw (space, tab), none-such byte 10 refl digit (byte == 10) refl)

in_words-digits : (ds : List ℕ) → AllDigits 10 ds → AllByRecursion IsInWord ds
in_words-digits [] all = tt
in_words-digits (d ∷ ds) all = (in_word-digit d all.0, in_words-digits ds all.1)

are-digits : (ds : List ℕ) → AllDigits 10 ds → list_all is_digit ds ≡ true
are-digits [] all = refl
are-digits (d ∷ ds) all = rw (lt-ltb (digit_value d) 10 all.0, are-digits ds all.1)

-- a digit is no sign
no_minus : (ds : List ℕ) → IsNumeral 10 ds → starts_with_minus ds ≡ false
no_minus [] numeral = absurd (omega (arith, numeral.0))
no_minus (d ∷ ds) numeral = none-such d 45 refl numeral.1.0 (d == 45) refl

no_plus : (d : ℕ) → digit_value d < 10 → (d == 43) ≡ false
no_plus d digit = none-such d 43 refl digit (d == 43) refl

without-sign : (ds : List ℕ) → IsNumeral 10 ds → without_leading_sign ds ≡ ds
without-sign [] numeral = absurd (omega (arith, numeral.0))
without-sign (d ∷ ds) numeral = rw (no_minus (d ∷ ds) numeral, no_plus d numeral.1.0)

numeral-is : (ds : List ℕ) → IsNumeral 10 ds → is_numeral ds ≡ true
numeral-is [] numeral = absurd (omega (arith, numeral.0))
numeral-is (d ∷ ds) numeral = are-digits (d ∷ ds) numeral.1

-- ---- numbers

number-plain : (ds : List ℕ) → IsNumeral 10 ds → number_of ds ≡ Some (pos (digits_value 10 ds))
number-plain ds numeral = rw (without-sign ds numeral, numeral-is ds numeral, no_minus ds numeral)

number-minus : (ds : List ℕ) → IsNumeral 10 ds → number_of (45 ∷ ds) ≡ Some (neg_ℤ (pos (digits_value 10 ds)))
number-minus ds numeral = rw (numeral-is ds numeral)

-- a printed number is read back
pub number-read : (z : ℤ) → unsigned_abs z < 10 ^ 64 → number_of (signed_decimal z) ≡ Some z
number-read (pos n) short =
    let is = decimal_is_IsNumeral_wide n short in
    number-plain (decimal n) is.0 ∙ ap (λ (m : ℕ). Some (pos m)) is.1
number-read (negsuc n) short =
    let is = decimal_is_IsNumeral_wide (suc n) short in
    number-minus (decimal (suc n)) is.0 ∙ ap (λ (m : ℕ). Some (neg_ℤ (pos m))) is.1

word-numeral : (ds : List ℕ) → IsNumeral 10 ds → IsWord ds
word-numeral [] numeral = absurd (omega (arith, numeral.0))
word-numeral (d ∷ ds) numeral = record { first = d; others = ds; is = refl; bytes = in_words-digits (d ∷ ds) numeral.1 }

after-letter : (letter : ℕ) (ds : List ℕ) → IsInWord letter → IsNumeral 10 ds → IsWord (letter ∷ ds)
after-letter letter ds is numeral = record { first = letter; others = ds; is = refl; bytes = (is, in_words-digits ds numeral.1) }

-- it is a word
pub word-number : (z : ℤ) → unsigned_abs z < 10 ^ 64 → IsWord (signed_decimal z)
word-number (pos n) short = word-numeral (decimal n) (decimal_is_IsNumeral_wide n short).0
word-number (negsuc n) short = after-letter 45 (decimal (suc n)) (refl, refl) (decimal_is_IsNumeral_wide (suc n) short).0

-- ---- names

-- a letter and a number
abbrev pub lettered : ℕ → ℕ → Name
lettered letter n = letter ∷ decimal n

pub word-lettered : (letter n : ℕ) → IsInWord letter → n < 10 ^ 64 → IsWord (lettered letter n)
word-lettered letter n is short = after-letter letter (decimal n) is (decimal_is_IsNumeral_wide n short).0

pub lettered-injective : (letter m n : ℕ) → m < 10 ^ 64 → n < 10 ^ 64 → lettered letter m ≡ lettered letter n → m ≡ n
lettered-injective letter m n short also e =
    let same : decimal m ≡ decimal n = cc e in
    sym (decimal_is_IsNumeral_wide m short).1 ∙ ap (digits_value 10) same ∙ (decimal_is_IsNumeral_wide n also).1
