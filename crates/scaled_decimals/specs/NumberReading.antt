-- The number that a text is, with its parts found one after another, and what it reads as. That these are the parts that spell the text, and that
-- there are none where nothing spells it, is a clause of `spelling_laws`.
use Rattle.std.specs.Prelude.{◌≡◌, ◌↔◌, ℕ, ◌+◌, Bool, true, false, ◌==◌, ◌&&◌, ◌||◌, nat_lt, List, [], ◌∷◌, length, drop, slice_index, ℤ, Option, Some, None, option_map, Result, Err, if◌then◌else◌}
use Rattle.std.specs.Str.{all_ascii_digits}
use Rattle.std.specs.Option.{option_map_or}
use Rattle.scaled_decimals.specs.DecimalReading.{decimal_of}
use Rattle.scaled_decimals.specs.NumberText.{Sign, Bare, Plus, Minus, Exponent, NumberText, Spells, fraction_digits}
use Rattle.scaled_decimals.specs.PartsReading.{digits_in_front, after_digits}
use Rattle.scaled_decimals.specs.declared.reading.DecFault.{DecFault}
use Rattle.scaled_decimals.specs.declared.reading.DecFault.TheVariants.{NotNumber}

-- the first byte, or 0 where there is none
abbrev pub first_byte : List ℕ → ℕ
first_byte text = slice_index text 0

-- ---- a sign

abbrev pub sign_by : Bool → Bool → Sign
sign_by true plus = Minus
sign_by false true = Plus
sign_by false false = Bare

-- the sign in front
abbrev pub sign_in_front : List ℕ → Sign
sign_in_front text = sign_by (first_byte text == 45) (first_byte text == 43)

-- what follows it
abbrev pub after_sign : List ℕ → List ℕ
after_sign text = if first_byte text == 45 || first_byte text == 43 then drop 1 text else text

-- ---- a point and the digits after it

abbrev pub fraction_by : Bool → List ℕ → Option (List ℕ)
fraction_by true text = Some (digits_in_front (drop 1 text))
fraction_by false text = None

-- the digits after a point in front, where there is a point
abbrev pub fraction_in_front : List ℕ → Option (List ℕ)
fraction_in_front text = fraction_by (first_byte text == 46) text

-- what follows them
abbrev pub after_fraction : List ℕ → List ℕ
after_fraction text = if first_byte text == 46 then after_digits (drop 1 text) else text

-- ---- a power of ten

-- one digit or more, and nothing else
abbrev pub is_numeral : List ℕ → Bool
is_numeral ds = nat_lt 0 (length ds) && all_ascii_digits ds

-- after its mark, a sign and digits
abbrev pub power_after : Bool → List ℕ → Option (Option Exponent)
power_after capital text = if is_numeral (after_sign text) then Some (Some (record { capital = capital; sign = sign_in_front text; digits = after_sign text })) else None

-- the whole text is a power of ten, or it is empty and there is none
abbrev pub power_in : List ℕ → Option (Option Exponent)
power_in [] = Some None
power_in (c ∷ text) = if c == 101 then power_after false text else if c == 69 then power_after true text else None

-- ---- a number

-- the sign, digits, point and digits in front, with this power of ten after them
abbrev pub number_with : List ℕ → Option Exponent → NumberText
number_with text power =
    let body = after_sign text in record {
      sign = sign_in_front text;
      whole = digits_in_front body;
      fraction = fraction_in_front (after_digits body);
      exponent = power;
    }

-- whether a digit stands before or after the point
abbrev pub has_digit : NumberText → Bool
has_digit p = nat_lt 0 (length p.whole + length (fraction_digits p.fraction))

-- The number that the text is, or none where it is no number.
abbrev pub number_in : List ℕ → Option NumberText
number_in text =
    if has_digit (number_with text None)
    then option_map (number_with text) (power_in (after_fraction (after_digits (after_sign text))))
    else None

-- the parts that are found are those that spell the text
abbrev pub NumbersAreFound : Type 0
NumbersAreFound = (text : List ℕ) (p : NumberText) → (number_in text ≡ Some p) ↔ Spells p text

-- what the text reads as: no number, one that is too large, or its billionths, and whether they are rounded
unfoldable pub decimal_in : List ℕ → Result (ℤ × Bool) DecFault
decimal_in text = option_map_or decimal_of (number_in text) (Err NotNumber)
