-- Sizes from which it follows that all numbers of the method's next pivot fit.
use Rattle.std.specs.Prelude.{ℕ, ◌+◌, ◌*◌, ◌<◌, ◌≤◌, ◌≢◌, ◌^◌, ◌==◌, ⊤, length, ℤ, unsigned_abs, List, [], ◌∷◌, slice_index_or, if◌then◌else◌}
use Rattle.written_method.specs.Lines.{entry_of, numbers_of}
use Rattle.written_method.specs.Tableaus.{line_of, no_line}
use Rattle.simplex_core.specs.KeptRounds.{KeptState, home_line, rough_lines}

-- no number of the list is above n
abbrev pub AllWithin : ℕ → List ℤ → Type 0
AllWithin n [] = ⊤
AllWithin n (z ∷ zs) = (unsigned_abs z ≤ n) × AllWithin n zs

-- a size for each kept line
abbrev pub AreSizes : KeptState → (ℕ → ℕ) → Type 0
AreSizes k size = (i : ℕ) → i < length k.tableau.lines → AllWithin (size i) (numbers_of (line_of k.tableau i))

-- a size for the method's line: with x0's row R, the numbers of R[x0] times the line less its entry at x0 times R
abbrev pub late_size : KeptState → (ℕ → ℕ) → ℕ → ℕ
late_size k size i =
    if i == k.home then size k.home else (unsigned_abs (entry_of (home_line k) k.x0) * size i) + (unsigned_abs (entry_of (line_of k.tableau i) k.x0) * size k.home)

-- that of its entry in the entering column
abbrev pub late_entry : KeptState → ℕ → ℕ → ℕ
late_entry k c i = unsigned_abs (entry_of (slice_index_or (rough_lines k) i no_line) c)

-- row by row: the two products of each line and their difference fit
abbrev pub IsNarrow : KeptState → (ℕ → ℕ) → ℕ → ℕ → Type 0
IsNarrow k size r c = (i : ℕ) → i < length k.tableau.lines → i ≢ r → (late_entry k c r * late_size k size i) + (late_entry k c i * late_size k size r) < 2 ^ 127

-- for all rows at once, by lengths in bits: e for the entries in the entering column, and for each line's numbers n
abbrev pub IsNarrowByBits : KeptState → (ℕ → ℕ) → ℕ → ℕ → ℕ → Type 0
IsNarrowByBits k size c e n = ((e + n) + 1 ≤ 127) × ((i : ℕ) → i < length k.tableau.lines → (late_entry k c i < 2 ^ e) × (late_size k size i < 2 ^ n))
