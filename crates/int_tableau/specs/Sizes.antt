-- How great the numbers of a line are at most.
use Rattle.std.specs.Prelude.{ℕ, ℤ, ◌≤◌, ◌<◌, ◌+◌, ◌*◌, ◌^◌, List, [], ◌∷◌, unsigned_abs, ⊤}
use Rattle.row_core.specs.Numbers.{numbers_of}

-- no absolute value of the numbers is above n
abbrev pub AreWithin : ℕ → List ℤ → Type 0
AreWithin n [] = ⊤
AreWithin n (z ∷ zs) = (unsigned_abs z ≤ n) × AreWithin n zs

-- nor is one of the entries, of the right side and of the own entry
pub record IsSized (size : ℕ) (entries : List (ℕ × ℤ)) (right own : ℤ) : Type 0 where
  pub entries_within : AreWithin size (numbers_of entries)
  pub right_within : unsigned_abs right ≤ size
  pub own_within : unsigned_abs own ≤ size

-- the numbers of two lists are so small that a times one of the first, b times one of the second and their difference have 64 bits
pub record AreSure (a b : ℤ) (xs ys : List (ℕ × ℤ)) : Type 0 where
  pub size : ℕ
  pub other_size : ℕ
  pub within : AreWithin size (numbers_of xs)
  pub other_within : AreWithin other_size (numbers_of ys)
  pub below : (unsigned_abs a * size) + (unsigned_abs b * other_size) < 2 ^ 63
