-- How near a written factor lies to the real one. With B = 10^9 and A = 10^9 + rate, 1 / (1 + d) is B / A; both sides are multiplied out.
use Rattle.std.specs.Prelude.{ℕ, ◌+◌, ◌*◌, ◌^◌, ◌<◌, ◌≤◌}
use Rattle.discount_factors.specs.Factors.{unit_of}

-- the whole number f is at most 1 / (1 + d)^n at its scale, and less than 2 below it
pub record IsNearPower (places rate n f : ℕ) : Type 0 where
  pub at_most : f * (10 ^ 9 + rate) ^ n ≤ unit_of places * (10 ^ 9) ^ n
  pub near : unit_of places * (10 ^ 9) ^ n < (f + 2) * (10 ^ 9 + rate) ^ n

-- the whole number o is at most 1 / (1 + d)^(n + 1/2) at its scale, and less than 2 below it: stated of the squares
pub record IsNearHalfPower (places rate n o : ℕ) : Type 0 where
  pub at_most : o ^ 2 * (10 ^ 9 + rate) ^ (2 * n + 1) ≤ unit_of places ^ 2 * (10 ^ 9) ^ (2 * n + 1)
  pub near : unit_of places ^ 2 * (10 ^ 9) ^ (2 * n + 1) < (o + 2) ^ 2 * (10 ^ 9 + rate) ^ (2 * n + 1)
