-- The greatest common divisor of two whole numbers, by Euclid's rule (Elements VII, 2).
-- That it divides both, and that every common divisor divides it, is the contract of `gcd_laws`.
use Rattle.std.specs.Prelude.{ℕ, zero, suc, ◌%◌}

-- at most so many steps of: gcd(a, 0) is a, and gcd(a, b) is gcd(b, a mod b)
unfoldable pub gcd_within : ℕ → ℕ → ℕ → ℕ
gcd_within zero a b = a
gcd_within (suc k) a zero = a
gcd_within (suc k) a (suc b) = gcd_within k (suc b) (a % suc b)

-- the greatest common divisor of a and b, and 0 of 0 and 0: b falls at each step, so b steps are enough
unfoldable pub gcd_of : ℕ → ℕ → ℕ
gcd_of a b = gcd_within b a b
