-- The tableau with the pivot of x0 kept back, and how the method's tableau comes from it.
use Rattle.std.specs.Prelude.{◌≡◌, ◌≢◌, ℕ, suc, neg_ℤ, ◌<◌, length, pos, ◌<ℤ◌, slice_set}
use Rattle.row_core.specs.Written.{row_divisor}
use Rattle.written_method.specs.Lines.{Line, entry_of, numbers_of}
use Rattle.written_method.specs.Tableaus.{Tableau, line_of, basic_of, rows_of, pivoted, negated_line}
use Rattle.written_method.specs.Basis.{IsShaped}

-- the numbers of the line have no common divisor; or all of them are 0
abbrev pub IsPrimitive : Line → Type 0
IsPrimitive line = row_divisor (numbers_of line) ≡ 1

-- the method's tableau: that of the kept one after the pivot that was kept back, in row `home` and x0's column
abbrev pub shown : ℕ → ℕ → Tableau → Tableau
shown home x0 kept = pivoted home x0 kept

abbrev pub Stands : Tableau → ℕ → ℕ → Tableau → Type 0
Stands kept home x0 method = method ≡ shown home x0 kept

-- the line of w, in which no pivot of the kept tableau has anything to clear: w is x0
pub record IsArtificial (x0 : ℕ) (line : Line) : Type 0 where
  pub at_x0 : entry_of line x0 ≡ neg_ℤ (pos 1)
  pub others : (c : ℕ) → c ≢ x0 → entry_of line c ≡ pos 0
  pub right : line.right ≡ pos 0

-- what holds of every kept tableau: x0 is its last column and isn't basic, and x0's row has a positive entry there
pub record IsKept (home x0 : ℕ) (t : Tableau) : Type 0 where
  pub shaped : IsShaped t
  pub artificial_there : suc (rows_of t) < length t.lines
  pub count : length t.lines ≡ suc (suc (rows_of t))
  pub last_column : t.columns ≡ suc x0
  pub primitive : (i : ℕ) → i < length t.lines → IsPrimitive (line_of t i)
  pub home_row : home < rows_of t
  pub positive : pos 0 <ℤ entry_of (line_of t home) x0
  pub not_basic : (i : ℕ) → i < rows_of t → basic_of t i ≢ x0
  pub artificial : IsArtificial x0 (line_of t (suc (rows_of t)))

-- the kept tableau after the method's pivot in another row r and column c: a pivot in the row `home`; then the two rows change places, and
-- that of x0 is multiplied by -1
abbrev pub exchanged : ℕ → ℕ → ℕ → Tableau → Tableau
exchanged home r c t = record {
  lines = slice_set (slice_set (pivoted home c t).lines r (line_of t home)) home (negated_line (line_of (pivoted home c t) r));
  basics = slice_set (slice_set t.basics r c) home (basic_of t r);
  columns = t.columns;
}
