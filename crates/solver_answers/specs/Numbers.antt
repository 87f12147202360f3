-- Numbers as words write them.
use Rattle.std.specs.Prelude.{ℕ, ◌-◌, ◌^◌, Bool, false, ◌&&◌, nat_lt, nat_le, ◌==◌, Option, Some, None, if◌then◌else◌}
use Rattle.std.specs.Float.{Float, binary64, float_is_finite}
use Rattle.std.specs.Float.Parse.{parse_float}
use Rattle.std.specs.Option.{option_and_then}
use Rattle.std.specs.Str.Parse.{digits_value, without_leading_plus}
use Rattle.mps_meaning.specs.Statements.{is_numeral}
use Rattle.solver_answers.specs.Words.{Word}

-- the number, unless it is infinite or none
abbrev pub finite : Float → Option Float
finite x = if float_is_finite x then Some x else None

-- the finite number that a decimal numeral writes, rounded to the nearest float of 64 bits
unfoldable pub number_in : Word → Option Float
number_in word = option_and_then finite (parse_float binary64 word)

-- the whole number that digits write, which may have a plus before them; from 2^64 on there is none, since nothing is counted so far
unfoldable pub whole_in : Word → Option ℕ
whole_in word =
    if is_numeral (without_leading_plus word) && nat_lt (digits_value 10 (without_leading_plus word)) (2 ^ 64) then Some (digits_value 10 (without_leading_plus word)) else None

-- the place, counted from 0, of the one of so many that has this number, counted from 1
abbrev pub place_of : ℕ → ℕ → Option ℕ
place_of count number = if nat_le 1 number && nat_le number count then Some (number - 1) else None

-- the same of a word
abbrev pub place_in : ℕ → Word → Option ℕ
place_in count word = option_and_then (place_of count) (whole_in word)

-- the number is this count
abbrev pub is_number : ℕ → Option ℕ → Bool
is_number count None = false
is_number count (Some number) = number == count

-- the word is this count
abbrev pub is_count : ℕ → Word → Bool
is_count count word = is_number count (whole_in word)
