-- What a text reads as by going through it once: the number that it spells, or none.
use Rattle.std.specs.Prelude.{ℕ, ◌+◌, ◌==◌, Bool, true, false, ◌&&◌, ◌||◌, nat_lt, List, [], ◌∷◌, length, drop, slice_index, Option, Some, None, Result, Ok, Err, if◌then◌else◌}
use Rattle.std.specs.Str.{all_ascii_digits}
use Rattle.scaled_decimals.specs.DecimalReading.{decimal_of}
use Rattle.scaled_decimals.specs.NumberText.{NumberText, Exponent, Sign, Bare, Plus, Minus}
use Rattle.scaled_decimals.specs.PartsReading.{digits_in_front, after_digits}
use Rattle.scaled_decimals.specs.declared.reading.DecFault.{DecFault}
use Rattle.mathprog_data.specs.Characters.{plus, minus, point}
use Rattle.mathprog_data.specs.Symbols.{Number}

-- what follows a sign in front, or the text where none stands there
abbrev pub after_sign : List ℕ → List ℕ
after_sign text = if (slice_index text 0 == minus) || (slice_index text 0 == plus) then drop 1 text else text

-- the sign, by whether it is a minus and whether it is a plus
abbrev pub sign_by : Bool → Bool → Sign
sign_by true _ = Minus
sign_by false true = Plus
sign_by false false = Bare

-- the sign in front
abbrev pub sign_of : List ℕ → Sign
sign_of text = sign_by (slice_index text 0 == minus) (slice_index text 0 == plus)

-- the digits after a point in front
abbrev pub places_in_front : List ℕ → List ℕ
places_in_front text = if slice_index text 0 == point then digits_in_front (drop 1 text) else drop (length text) text

-- what follows a point in front and its digits
abbrev pub after_places : List ℕ → List ℕ
after_places text = if slice_index text 0 == point then after_digits (drop 1 text) else text

-- the digits after a point, where there is one
abbrev pub fraction_by : Bool → List ℕ → Option (List ℕ)
fraction_by true text = Some (digits_in_front (drop 1 text))
fraction_by false text = None

-- the parts of the number in front, with this power of ten
abbrev pub number_at : List ℕ → Option Exponent → NumberText
number_at text e = record {
  sign = sign_of text;
  whole = digits_in_front (after_sign text);
  fraction = fraction_by (slice_index (after_digits (after_sign text)) 0 == point) (after_digits (after_sign text));
  exponent = e;
}

-- the power of ten that the whole text is: none for no text
abbrev pub power_at : List ℕ → Option (Option Exponent)
power_at [] = Some None
power_at (c ∷ cs) =
    if ((c == 69) || (c == 101)) && nat_lt 0 (length (after_sign cs)) && all_ascii_digits (after_sign cs)
    then Some (Some (record { capital = c == 69; sign = sign_of cs; digits = after_sign cs }))
    else None

-- the digits before and after the point are one at least
abbrev pub has_digits : List ℕ → Bool
has_digits text = nat_lt 0 (length (digits_in_front (after_sign text)) + length (places_in_front (after_digits (after_sign text))))

-- the number with this power of ten, where there is one
abbrev pub with_power : List ℕ → Option (Option Exponent) → Option NumberText
with_power text None = None
with_power text (Some e) = Some (number_at text e)

-- the parts of the number that the text spells
abbrev pub number_text : List ℕ → Option NumberText
number_text text = if has_digits text then with_power text (power_at (after_places (after_digits (after_sign text)))) else None

-- an answer that isn't refused
abbrev pub accepted : Result Number DecFault → Option Number
accepted (Ok number) = Some number
accepted (Err fault) = None

-- the number that these parts read as
abbrev pub read_parts : Option NumberText → Option Number
read_parts None = None
read_parts (Some p) = accepted (decimal_of p)

-- the number that the text reads as: none where it spells none, or one above 10^15
unfoldable pub reading : List ℕ → Option Number
reading text = read_parts (number_text text)
