-- The value of a number's text, as an exact fraction and as the nearest whole number of billionths.
use Rattle.std.specs.Prelude.{◌≡◌, ℕ, ◌+◌, ◌*◌, ◌^◌, ℤ, pos, neg_ℤ, Bool, true, not, nat_lt, ◌==◌, List, ◌++◌, length, Result, Ok, Err, if◌then◌else◌}
use Rattle.scaled_decimals.specs.declared.reading.DecFault.{DecFault}
use Rattle.scaled_decimals.specs.declared.reading.DecFault.TheVariants.{NotNumber, TooLarge}
use Rattle.scaled_decimals.specs.Digits.{number_of}
use Rattle.scaled_decimals.specs.Rounding.{nearest}
use Rattle.scaled_decimals.specs.NumberText.{NumberText, Spells, is_minus, is_lowering, fraction_digits, exponent_digits}

-- the number that all digits write, without the point
abbrev pub mantissa : NumberText → ℕ
mantissa p = number_of (p.whole ++ fraction_digits p.fraction)

-- the power of ten that the mantissa is multiplied by: that of an exponent without a minus
abbrev pub raised : NumberText → ℕ
raised p = if is_lowering p.exponent then 0 else number_of (exponent_digits p.exponent)

-- the power of ten that it is divided by: one for each digit after the point, and that of an exponent with a minus
abbrev pub lowered : NumberText → ℕ
lowered p = length (fraction_digits p.fraction) + (if is_lowering p.exponent then number_of (exponent_digits p.exponent) else 0)

-- the absolute value is numerator / denominator
unfoldable pub numerator : NumberText → ℕ
numerator p = mantissa p * 10 ^ raised p

unfoldable pub denominator : NumberText → ℕ
denominator p = 10 ^ lowered p

-- the absolute value in billionths, to the nearest whole number
abbrev pub billionths : NumberText → ℕ
billionths p = nearest (10 ^ 9 * numerator p) (denominator p)

-- whether the whole number of billionths differs from the exact value
abbrev pub is_rounded : NumberText → Bool
is_rounded p = not (billionths p * denominator p == 10 ^ 9 * numerator p)

-- whether the exact absolute value is above 10^15
abbrev pub is_above : NumberText → Bool
is_above p = nat_lt (10 ^ 15 * denominator p) (numerator p)

-- n, or -n after a minus
abbrev pub with_sign : Bool → ℕ → ℤ
with_sign negative n = if negative then neg_ℤ (pos n) else pos n

-- what n / d billionths read as: refused above 10^24, which is 10^15 units, else the nearest whole number and whether it differs
abbrev pub read_ratio : Bool → ℕ → ℕ → Result (ℤ × Bool) DecFault
read_ratio negative n d = if nat_lt (10 ^ 24 * d) n then Err TooLarge else Ok (with_sign negative (nearest n d), not (nearest n d * d == n))

-- what a number reads as: refused where it is above 10^15, else its billionths, and whether they are rounded
abbrev pub decimal_of : NumberText → Result (ℤ × Bool) DecFault
decimal_of p = if is_above p then Err TooLarge else Ok (with_sign (is_minus p.sign) (billionths p), is_rounded p)

-- the answer is right for this text: it says that the text is no number, or what the number reads as
abbrev pub Reads : List ℕ → Result (ℤ × Bool) DecFault → Type 0
Reads text (Ok v) = (p : NumberText) × Spells p text × (decimal_of p ≡ Ok v)
Reads text (Err TooLarge) = (p : NumberText) × Spells p text × (is_above p ≡ true)
Reads text (Err NotNumber) = (p : NumberText) → Spells p text → ⊥
