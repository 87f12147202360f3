-- Entries whose numbers have 64 bits.
use Rattle.std.specs.Prelude.{ℕ, ℤ, ◌<◌, ◌^◌, List, [], ◌∷◌, unsigned_abs, ⊤}

-- the absolute value of each number is below 2^63
abbrev pub AreNarrow : List (ℕ × ℤ) → Type 0
AreNarrow [] = ⊤
AreNarrow (e ∷ es) = (unsigned_abs e.1 < 2 ^ 63) × AreNarrow es
