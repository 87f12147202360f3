-- Numbers of billionths as exact decimals, without zeros at the end.
use Rattle.std.specs.Prelude.{ℕ, zero, suc, ◌+◌, ◌*◌, ◌/◌, ◌%◌, ℤ, pos, List, [], ◌∷◌, ◌++◌, codes, int_lt, nat_eq, unsigned_abs, if◌then◌else◌}
use Rattle.std.specs.Fmt.{decimal}

-- what one is, in billionths
abbrev pub billion : ℕ
billion = 1000000000

-- the first digit after the point of a part of one
abbrev pub first_digit : ℕ → ℕ
first_digit part = 48 + part * 10 / billion

-- ten times the part, without that digit
abbrev pub after_first : ℕ → ℕ
after_first part = part * 10 % billion

-- the digits of a part of one, at most so many, until nothing is left of it
unfoldable pub part_digits : ℕ → ℕ → List ℕ
part_digits zero part = []
part_digits (suc places) part = if nat_eq part 0 then [] else first_digit part ∷ part_digits places (after_first part)

-- a part of one after the point, or nothing
abbrev pub part_text : ℕ → List ℕ
part_text part = if nat_eq part 0 then [] else codes "." ++ part_digits 9 part

-- a number without its sign
abbrev pub size_text : ℕ → List ℕ
size_text n = decimal (n / billion) ++ part_text (n % billion)

-- the sign of a number below 0
abbrev pub sign_text : ℤ → List ℕ
sign_text v = if int_lt v (pos 0) then codes "-" else []

-- the number of billionths as a decimal
unfoldable pub decimal_text : ℤ → List ℕ
decimal_text v = sign_text v ++ size_text (unsigned_abs v)
