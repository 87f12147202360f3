-- The rounds of the first phase over kept tableaus: the state of the method that they show, what is due in it, and the next.
use Rattle.std.specs.Prelude.{◌≡◌, ◌≢◌, ◌<◌, neg_ℤ, length, ℕ, suc, nat_lt, pos, List, map, Option, Some, None, slice_set, if◌then◌else◌}
use Rattle.row_core.specs.Numbers.{is_zero}
use Rattle.written_method.specs.Lines.{Line, entry_of, less, line_less}
use Rattle.written_method.specs.Tableaus.{Tableau, line_of, basic_of, rows_of, pivoted, negated, without_x0}
use Rattle.written_method.specs.Basis.{IsShaped}
use Rattle.written_method.specs.Choices.{Candidate, greatest_from, first_positive_from, leaving_from}
use Rattle.written_method.specs.Rounds.{State, Start, degenerate_after, One, Two, Due, Pivot, NoColumn, NoRow}
use Rattle.simplex_core.specs.Kept.{IsPrimitive, IsArtificial, shown, exchanged}

pub record KeptState : Type 0 where
  pub tableau : Tableau
  pub home : ℕ
  pub x0 : ℕ
  pub pivots : ℕ
  pub degenerate : ℕ

-- the method's state
abbrev pub shown_state : KeptState → State
shown_state k = record { tableau = shown k.home k.x0 k.tableau; phase = One; pivots = k.pivots; degenerate = k.degenerate }

-- the line of x0's row
abbrev pub home_line : KeptState → Line
home_line k = line_of k.tableau k.home

-- a positive multiple of the method's line: R[x0] times the line less its entry at x0 times R, R being x0's row; and R itself in its place
abbrev pub rough_line : ℕ → Line → Line → Line
rough_line x0 home line = line_less (entry_of home x0) (entry_of line x0) line home

abbrev pub rough_lines : KeptState → List Line
rough_lines k = slice_set (map (rough_line k.x0 (home_line k)) k.tableau.lines) k.home (home_line k)

-- the column that enters: by the entries of x0's row but that at x0
abbrev pub kept_entering : KeptState → Option ℕ
kept_entering k =
    if nat_lt k.degenerate 50 then greatest_from 0 (pos 0) None (slice_set (home_line k).entries k.x0 (pos 0)) else first_positive_from 0 (slice_set (home_line k).entries k.x0 (pos 0))

-- the row that leaves, by the rough lines
abbrev pub kept_leaving : KeptState → ℕ → Option Candidate
kept_leaving k c = leaving_from (Some k.x0) c 0 None (rough_lines k) (slice_set k.tableau.basics k.home k.x0)

abbrev pub kept_due : KeptState → Due
kept_due k = elim (kept_entering k) [ None ↦ NoColumn | Some c ↦ elim (kept_leaving k c) [ None ↦ NoRow c | Some a ↦ Pivot a.row c ] ]

-- the next state, after a pivot in another row than that of x0
abbrev pub next_kept : KeptState → ℕ → ℕ → KeptState
next_kept k r c = record {
  tableau = exchanged k.home r c k.tableau;
  home = k.home;
  x0 = k.x0;
  pivots = suc k.pivots;
  degenerate = if is_zero (less (entry_of (home_line k) k.x0) (entry_of (line_of k.tableau r) k.x0) (line_of k.tableau r).right (home_line k).right) then suc k.degenerate else 0;
}

-- the state in which phase 2 begins, after a pivot in the row of x0
abbrev pub left_kept : KeptState → ℕ → State
left_kept k c = record {
  tableau = without_x0 (pivoted k.home c k.tableau);
  phase = Two;
  pivots = suc k.pivots;
  degenerate = if is_zero (home_line k).right then suc k.degenerate else 0;
}

-- the method's state before its first pivot
abbrev pub start_state : Tableau → ℕ → ℕ → State
start_state t pivots degenerate = record { tableau = t; phase = Start; pivots = pivots; degenerate = degenerate }

-- the kept state after the first pivot, which is kept back: x0's row is multiplied by -1
abbrev pub started : State → ℕ → ℕ → KeptState
started s h x0 = record { tableau = negated h s.tableau; home = h; x0 = x0; pivots = suc s.pivots; degenerate = degenerate_after s h }

-- a tableau from which phase 1 can begin: each row has -1 at x0
pub record IsFirst (x0 : ℕ) (t : Tableau) : Type 0 where
  pub shaped : IsShaped t
  pub artificial_there : suc (rows_of t) < length t.lines
  pub count : length t.lines ≡ suc (suc (rows_of t))
  pub last_column : t.columns ≡ suc x0
  pub primitive : (i : ℕ) → i < length t.lines → IsPrimitive (line_of t i)
  pub at_x0 : (i : ℕ) → i < rows_of t → entry_of (line_of t i) x0 ≡ neg_ℤ (pos 1)
  pub not_basic : (i : ℕ) → i < rows_of t → basic_of t i ≢ x0
  pub artificial : IsArtificial x0 (line_of t (suc (rows_of t)))
