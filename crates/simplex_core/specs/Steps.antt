-- What has to hold of a state where its due is asked for, and where a pivot is made.
use Rattle.std.specs.Prelude.{◌≡◌, ℕ, ◌+◌, ◌-◌, ◌<◌, pos, ◌<ℤ◌, IsTrue, length, slice_set, ⊤}
use Rattle.written_method.specs.Lines.{entry_of}
use Rattle.written_method.specs.Rounds.{State, Start, One, Two, prepared}
use Rattle.written_method.specs.Tableaus.{Tableau, line_of, basic_of, rows_of, has_x0}
use Rattle.int_tableau.specs.Shapes.{IsNowhere}

-- x0 and the line of w are there while they decide
abbrev pub AreThere : State → Type 0
AreThere s = elim s.phase [
  | Start ↦ 0 < s.tableau.columns
  | One ↦ (rows_of s.tableau + 1 < length s.tableau.lines) × (0 < s.tableau.columns)
  | Two ↦ ⊤
]

-- x0 leaves for column c in row r: then it isn't basic any more
abbrev pub IsDropped : Tableau → ℕ → ℕ → Type 0
IsDropped t r c = IsTrue (has_x0 t) × IsNowhere (t.columns - 1) (slice_set t.basics r c)

-- a pivot in row r and column c can be made
pub record IsMove (s : State) (r c : ℕ) : Type 0 where
  pub row : r < rows_of s.tableau
  pub line : r < length s.tableau.lines
  pub column : c < s.tableau.columns
  pub positive : pos 0 <ℤ entry_of (line_of (prepared s r) r) c
  pub dropped : s.phase ≡ One → basic_of s.tableau r ≡ s.tableau.columns - 1 → IsDropped s.tableau r c
