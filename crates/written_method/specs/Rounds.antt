-- The rounds: the state between two pivots, what is due in it, and the state after a pivot.
use Rattle.std.specs.Prelude.{ℕ, suc, ◌+◌, ◌-◌, ◌==◌, nat_lt, ℤ, pos, List, map, take, Option, Some, None, if◌then◌else◌}
use Rattle.exact_num.specs.Steps.{Step}
use Rattle.row_core.specs.declared.place.Place.{Place}
use Rattle.row_core.specs.declared.place.Place.TheVariants as places
use Rattle.row_core.specs.Numbers.{is_zero}
use Rattle.written_method.specs.Lines.{Line}
use Rattle.written_method.specs.Tableaus.{Tableau, rows_of, line_of, basic_of, pivoted, pivot_formed, negated, without_x0}
use Rattle.written_method.specs.Choices.{greatest_from, first_positive_from, leaving_from, least_right_from}

-- x0 is still to be taken in; x0 is basic; there is no x0
pub data Phase : Type 0 where
  Start : Phase
  One : Phase
  Two : Phase

pub record State : Type 0 where
  pub tableau : Tableau
  pub phase : Phase
  pub pivots : ℕ
  pub degenerate : ℕ

-- a pivot in a row and a column; no column can enter; no row can leave for a column
pub data Due : Type 0 where
  Pivot : (row : ℕ) → (column : ℕ) → Due
  NoColumn : Due
  NoRow : (column : ℕ) → Due

-- x0's column while it is there
abbrev pub x0_of : State → Option ℕ
x0_of s = elim s.phase [ Start ↦ Some (s.tableau.columns - 1) | One ↦ Some (s.tableau.columns - 1) | Two ↦ None ]

-- the line whose entries decide: that of w, or that of z
abbrev pub deciding_line : State → Line
deciding_line s = elim s.phase [ Start ↦ line_of s.tableau (rows_of s.tableau + 1) | One ↦ line_of s.tableau (rows_of s.tableau + 1) | Two ↦ line_of s.tableau (rows_of s.tableau) ]

abbrev pub entering : State → Option ℕ
entering s =
    if nat_lt s.degenerate 50 then greatest_from 0 (pos 0) None (deciding_line s).entries else first_positive_from 0 (deciding_line s).entries

abbrev pub leaving : State → ℕ → Due
leaving s c = elim (leaving_from (x0_of s) c 0 None s.tableau.lines s.tableau.basics) [ None ↦ NoRow c | Some a ↦ Pivot a.row c ]

abbrev pub right_sides : Tableau → List ℤ
right_sides t = map (λ (l : Line). l.right) (take (rows_of t) t.lines)

-- what is due: x0 into the row with the least right side, or a round
abbrev pub due : State → Due
due s =
    elim s.phase [
      | Start ↦ Pivot (least_right_from 0 0 (pos 0) (right_sides s.tableau)) (s.tableau.columns - 1)
      | One ↦ elim (entering s) [ None ↦ NoColumn | Some c ↦ leaving s c ]
      | Two ↦ elim (entering s) [ None ↦ NoColumn | Some c ↦ leaving s c ]
    ]

-- the tableau in which the pivot in row r is made: at the start that row is multiplied by -1
abbrev pub prepared : State → ℕ → Tableau
prepared s r = elim s.phase [ Start ↦ negated r s.tableau | One ↦ s.tableau | Two ↦ s.tableau ]

-- the step of a pivot: its place is its number, counted from 1
abbrev pub step_of : State → ℕ → ℕ → Step Place
step_of s r c = record { place = places.Pivot (suc s.pivots); formed = pivot_formed r c (prepared s r) }

-- how many degenerate pivots followed one another, after a pivot in this row
abbrev pub degenerate_after : State → ℕ → ℕ
degenerate_after s r = if is_zero (line_of s.tableau r).right then suc s.degenerate else 0

-- x0 leaves where it was basic in the pivot row: then it is dropped, and phase 2 begins
abbrev pub phase_after : State → ℕ → Phase
phase_after s r =
    elim s.phase [
      | Start ↦ One
      | One ↦ if basic_of s.tableau r == (s.tableau.columns - 1) then Two else One
      | Two ↦ Two
    ]

abbrev pub tableau_after : State → ℕ → ℕ → Tableau
tableau_after s r c =
    let t : Tableau = pivoted r c (prepared s r) in
    elim s.phase [
      | Start ↦ t
      | One ↦ if basic_of s.tableau r == (s.tableau.columns - 1) then without_x0 t else t
      | Two ↦ t
    ]

abbrev pub after : State → ℕ → ℕ → State
after s r c = record {
  tableau = tableau_after s r c;
  phase = phase_after s r;
  pivots = suc s.pivots;
  degenerate = degenerate_after s r;
}
