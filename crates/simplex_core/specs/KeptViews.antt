-- What the code of phase 1 with the pivot of x0 kept back means: kept rows, the row that leaves by them, and sizes.
use Rattle.std.specs.Prelude.{◌≡◌, ℕ, zero, suc, ◌+◌, ◌-◌, ◌*◌, ◌<◌, ◌≤◌, ◌^◌, ◌==◌, ℤ, true, unsigned_abs, List, Some, slice_set, slice_index_or, nat_lt, [], ◌∷◌, if◌then◌else◌}
use Rattle.exact_num.specs.Range.{all_fit}
use Rattle.row_core.specs.Written.{row_divisor}
use Rattle.written_method.specs.Lines.{Line, entry_of, numbers_of}
use Rattle.written_method.specs.Tableaus.{Tableau, line_of}
use Rattle.written_method.specs.Choices as choices
use Rattle.written_method.specs.Rounds as rounds
use Rattle.written_method.specs.Rounds.{State, Pivot, NoColumn, NoRow, due, after, step_of}
use Rattle.simplex_core.specs.Kept.{IsKept}
use Rattle.simplex_core.specs.KeptRounds.{KeptState, shown_state, rough_line}
use Rattle.simplex_core.specs.Widths.{late_entry, late_size}
use Rattle.int_tableau.specs.Sizes.{AreWithin}
use Rattle.simplex_core.specs.declared.home.Home.{Home}
use Rattle.simplex_core.specs.declared.kept_choice.Spread.{Spread}

-- x0's column is the last
abbrev pub x0_in : Tableau → ℕ
x0_in t = t.columns - 1

-- the kept state with x0's row in `home`
abbrev pub kept_state : Tableau → ℕ → ℕ → ℕ → ℕ → KeptState
kept_state t home x0 pivots degenerate = record { tableau = t; home = home; x0 = x0; pivots = pivots; degenerate = degenerate }

-- a positive multiple of the method's line
abbrev pub rough_of : Tableau → ℕ → ℕ → ℕ → Line
rough_of t home x0 row = if row == home then line_of t home else rough_line x0 (line_of t home) (line_of t row)

-- the basic columns of the method's rows
abbrev pub kept_basics : Tableau → ℕ → ℕ → List ℕ
kept_basics t home x0 = slice_set t.basics home x0

-- the row as one that may leave for column c
abbrev pub candidate_of : Tableau → ℕ → ℕ → ℕ → ℕ → choices.Candidate
candidate_of t home x0 c row = record {
  row = row;
  right = (rough_of t home x0 row).right;
  entry = entry_of (rough_of t home x0 row) c;
  rank = choices.rank_of (Some x0) (slice_index_or (kept_basics t home x0) row 0);
}

-- what the code knows of x0's row
pub record IsHome (t : Tableau) (h : Home) : Type 0 where
  pub kept : IsKept h.row (x0_in t) t
  pub below : h.column < t.columns
  pub at_x0_is : h.at_x0 ≡ entry_of (line_of t h.row) (x0_in t)
  pub entry_is : h.entry ≡ entry_of (line_of t h.row) h.column
  pub right_is : h.right ≡ (line_of t h.row).right

-- the greatest absolute value, and of a list's
abbrev pub greater_of : ℕ → ℕ → ℕ
greater_of m n = if nat_lt m n then n else m

abbrev pub greatest_size : List ℤ → ℕ
greatest_size [] = 0
greatest_size (z ∷ zs) = greater_of (unsigned_abs z) (greatest_size zs)

abbrev pub size_in : Tableau → ℕ → ℕ
size_in t i = greatest_size (numbers_of (line_of t i))

-- the sizes bound those of a line: its rough entry in column c, its entry at x0, and its numbers
pub record IsWithin (t : Tableau) (home c i : ℕ) (s : Spread) : Type 0 where
  pub entry_within : late_entry (kept_state t home (x0_in t) 0 0) c i ≤ s.entry
  pub x0_within : unsigned_abs (entry_of (line_of t i) (x0_in t)) ≤ s.at_x0
  pub size_within : AreWithin s.size (numbers_of (line_of t i))

-- and so for the first n lines
abbrev pub AreSpread : Tableau → ℕ → ℕ → ℕ → Spread → Type 0
AreSpread t home c n s = (i : ℕ) → i < n → IsWithin t home c i s

-- the two products that the pivot forms of a line's numbers, and their difference, fit
abbrev pub IsLineNarrow : Tableau → ℕ → ℕ → ℕ → ℕ → ℕ → Type 0
IsLineNarrow t home x0 row column i =
    (late_entry (kept_state t home x0 0 0) column row * late_size (kept_state t home x0 0 0) (size_in t) i) + (late_entry (kept_state t home x0 0 0) column i * late_size (kept_state t home x0 0 0) (size_in t) row) < 2 ^ 127

-- a line whose numbers have no common divisor, are below 2^126, and at most 1 at x0
pub record IsPlain (t : Tableau) (i : ℕ) : Type 0 where
  pub lowest : row_divisor (numbers_of (line_of t i)) ≡ 1
  pub small : AreWithin 85070591730234615865843651857942052863 (numbers_of (line_of t i))
  pub one_at_x0 : unsigned_abs (entry_of (line_of t i) (x0_in t)) ≤ 1

-- all numbers of the method's pivot fit
abbrev pub FitsPivot : Tableau → ℕ → ℕ → ℕ → ℕ → Type 0
FitsPivot t home x0 row column = (pivots degenerate : ℕ) → all_fit (step_of (shown_state (kept_state t home x0 pivots degenerate)) row column).formed ≡ true

-- phase 2
abbrev pub second_phase : Tableau → ℕ → ℕ → State
second_phase t pivots degenerate = record { tableau = t; phase = rounds.Two; pivots = pivots; degenerate = degenerate }

-- the state after n pivots, as far as they are due
unfoldable pub advanced : ℕ → State → State
advanced zero s = s
advanced (suc n) s = elim (due s) [ Pivot r c ↦ advanced n (after s r c) | NoColumn ↦ s | NoRow c ↦ s ]
