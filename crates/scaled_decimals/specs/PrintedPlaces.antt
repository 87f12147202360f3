-- The printed form of an exact value with six decimal places: rounded to millionths, ties away from zero.
-- That the rounded number is the nearest one, and that the text reads as that number, is the contract of `places_laws`.
use Rattle.std.specs.Prelude.{ℕ, ◌+◌, ◌*◌, ◌/◌, ◌%◌, ℤ, pos, negsuc, neg_ℤ, unsigned_abs, List, [], ◌∷◌, ◌++◌, ◌==◌, if◌then◌else◌, codes, decimal}
use Rattle.std.specs.Str.Parse.{digits_value}
use Rattle.exact_num.specs.Rational.{Rational, signed_by}
use Rattle.scaled_decimals.specs.Rounding.{nearest}

-- the whole number of millionths nearest to x, and of two that are as near the one further from 0
unfoldable pub millionths : Rational → ℤ
millionths x = signed_by x.top (pos (nearest (1000000 * unsigned_abs x.top) (unsigned_abs x.bottom)))

-- `-` for a negative number, and nothing for any other
abbrev pub sign_of : ℤ → List ℕ
sign_of (pos n) = []
sign_of (negsuc n) = codes "-"

-- the last decimal digit of n
abbrev pub last_digit : ℕ → ℕ
last_digit n = 48 + n % 10

-- a number below 1000000 as six digits
abbrev pub six_digits : ℕ → List ℕ
six_digits n = last_digit (n / 100000) ∷ last_digit (n / 10000) ∷ last_digit (n / 1000) ∷ last_digit (n / 100) ∷ last_digit (n / 10) ∷ last_digit n ∷ []

-- the sign, the whole part, a point and six digits of n millionths
unfoldable pub millionths_text : ℤ → List ℕ
millionths_text n = sign_of n ++ decimal (unsigned_abs n / 1000000) ++ codes "." ++ six_digits (unsigned_abs n % 1000000)

-- x with six decimal places
abbrev pub places_text : Rational → List ℕ
places_text x = millionths_text (millionths x)

-- what stands before the first point of a text
unfoldable pub before_point : List ℕ → List ℕ
before_point [] = []
before_point (c ∷ cs) = if c == 46 then [] else c ∷ before_point cs

-- what stands after the first point of a text
unfoldable pub after_point : List ℕ → List ℕ
after_point [] = []
after_point (c ∷ cs) = if c == 46 then cs else after_point cs

-- how many millionths digits, a point and six digits mean
abbrev pub unsigned_millionths : List ℕ → ℕ
unsigned_millionths text = 1000000 * digits_value 10 (before_point text) + digits_value 10 (after_point text)

-- how many millionths they mean after an optional `-`
unfoldable pub read_millionths : List ℕ → ℤ
read_millionths [] = pos 0
read_millionths (c ∷ cs) = if c == 45 then neg_ℤ (pos (unsigned_millionths cs)) else pos (unsigned_millionths (c ∷ cs))
