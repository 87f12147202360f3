-- What holds of the tableau between two pivots.
use Rattle.std.specs.Prelude.{◌≡◌, ◌≢◌, ℕ, ◌<◌, ◌≤◌, length, pos, ◌<ℤ◌, ◌≤ℤ◌, ◌*ℤ◌}
use Rattle.written_method.specs.Lines.{entry_of}
use Rattle.written_method.specs.Tableaus.{Tableau, line_of, basic_of, rows_of}

-- each line has an entry for each column, and a row's line has no own entry
pub record IsShaped (t : Tableau) : Type 0 where
  pub lines : rows_of t < length t.lines
  pub entries : (i : ℕ) → i < length t.lines → length (line_of t i).entries ≡ t.columns
  pub rows_own : (i : ℕ) → i < rows_of t → (line_of t i).own ≡ pos 0

-- the lines of z and w have positive entries there
abbrev pub HasCosts : Tableau → Type 0
HasCosts t = (i : ℕ) → rows_of t ≤ i → i < length t.lines → pos 0 <ℤ (line_of t i).own

-- each row has a positive entry at its basic column, and no other line has an entry there
pub record IsBasic (t : Tableau) : Type 0 where
  pub columns : (r : ℕ) → r < rows_of t → basic_of t r < t.columns
  pub own : (r : ℕ) → r < rows_of t → pos 0 <ℤ entry_of (line_of t r) (basic_of t r)
  pub others : (i r : ℕ) → i < length t.lines → r < rows_of t → i ≢ r → entry_of (line_of t i) (basic_of t r) ≡ pos 0

-- no row has a negative right side
abbrev pub AreFeasible : Tableau → Type 0
AreFeasible t = (r : ℕ) → r < rows_of t → pos 0 ≤ℤ (line_of t r).right

-- a row may leave for a column: it has a positive entry there, and no row with one has a smaller quotient of right side by entry
pub record MayLeave (t : Tableau) (r c : ℕ) : Type 0 where
  pub row : r < rows_of t
  pub positive : pos 0 <ℤ entry_of (line_of t r) c
  pub least : (i : ℕ) → i < rows_of t → pos 0 <ℤ entry_of (line_of t i) c → ((line_of t r).right *ℤ entry_of (line_of t i) c) ≤ℤ ((line_of t i).right *ℤ entry_of (line_of t r) c)
