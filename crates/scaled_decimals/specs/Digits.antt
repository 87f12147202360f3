-- Runs of decimal digits, and the number that they write.
use Rattle.std.specs.Prelude.{◌≡◌, ℕ, ◌+◌, ◌-◌, ◌*◌, ◌^◌, ◌<◌, true, List, [], ◌∷◌, length}
use Rattle.std.specs.Str.{all_ascii_digits}

-- each byte is a digit
abbrev pub AreDigits : List ℕ → Type 0
AreDigits ds = all_ascii_digits ds ≡ true

-- one digit or more, and nothing else
abbrev pub IsNumeral : List ℕ → Type 0
IsNumeral ds = (0 < length ds) × AreDigits ds

-- the number that digits write: each counts the power of ten of its place
unfoldable pub number_of : List ℕ → ℕ
number_of [] = 0
number_of (c ∷ cs) = (c - 48) * 10 ^ length cs + number_of cs

-- the number that digits write after those of n
unfoldable pub continued : ℕ → List ℕ → ℕ
continued n ds = n * 10 ^ length ds + number_of ds
