-- A value as it is shown: the whole number of millionths that its six decimal places print.
use Rattle.std.specs.Prelude.{ℕ, ◌*◌, ◌^◌, ℤ, unsigned_abs, nat_lt, Option, Some, None, if◌then◌else◌}
use Rattle.exact_num.specs.Rational.{Rational}
use Rattle.scaled_decimals.specs.PrintedPlaces.{millionths}
use Rattle.scaled_decimals.specs.Rounding.{nearest}

-- how many millionths the size of x is, to the nearest whole number
abbrev pub size_of : Rational → ℕ
size_of x = nearest (1000000 * unsigned_abs x.top) (unsigned_abs x.bottom)

-- the rounded value where it is below 2^127, and nothing where it isn't
abbrev pub shown : Rational → Option ℤ
shown x = if nat_lt (size_of x) (2 ^ 127) then Some (millionths x) else None
