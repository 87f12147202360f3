-- The range of every number that a computation may form: from -(2^127 - 1) to 2^127 - 1, so that with a number its negation fits.
use Rattle.std.specs.Prelude.{ℤ, Bool, true, List, [], ◌∷◌, ◌&&◌, ◌<◌, ◌^◌, nat_lt, unsigned_abs}

-- z fits: its absolute value is below 2^127
abbrev pub InRange : ℤ → Type 0
InRange z = unsigned_abs z < 2 ^ 127

-- whether z fits
unfoldable pub in_range : ℤ → Bool
in_range z = nat_lt (unsigned_abs z) (2 ^ 127)

-- whether every number of the list fits
unfoldable pub all_fit : List ℤ → Bool
all_fit [] = true
all_fit (z ∷ zs) = in_range z && all_fit zs
