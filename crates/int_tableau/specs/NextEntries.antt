-- The next entry of a line.
use Rattle.std.specs.Prelude.{◌≡◌, ◌≢◌, ℕ, ◌<◌, ◌≤◌, length, ℤ, pos}
use Rattle.exact_num.specs.Range.{InRange}
use Rattle.written_method.specs.Lines.{Line, entry_of}

-- the first column from `low` on with an entry other than 0, and that entry
pub record IsNextEntry (line : Line) (low : ℕ) (e : ℕ × ℤ) : Type 0 where
  pub from : low ≤ e.0
  pub within : e.0 < length line.entries
  pub number : entry_of line e.0 ≡ e.1
  pub nonzero : e.1 ≢ pos 0
  pub fits : InRange e.1
  pub before : (c : ℕ) → low ≤ c → c < e.0 → entry_of line c ≡ pos 0
