-- A tableau and how many pivots were made in it.
use Rattle.std.specs.Prelude.{◌≡◌, ℕ, suc, ◌-◌, ◌≤◌, ◌==◌, ℤ, pos, if◌then◌else◌}
use Rattle.written_method.specs.Meaning.{Values, excess}
use Rattle.written_method.specs.Tableaus.{Tableau, line_of, rows_of, negated, pivoted, without_x0}

pub record Counted : Type 0 where
  pub tableau : Tableau
  pub pivots : ℕ

-- after one more pivot, in row r and column c
abbrev pub pivoted_once : ℕ → ℕ → Counted → Counted
pivoted_once r c t = record { tableau = pivoted r c t.tableau; pivots = suc t.pivots }

-- with row r multiplied by -1, which is no pivot
abbrev pub negated_in : ℕ → Counted → Counted
negated_in r t = record { tableau = negated r t.tableau; pivots = t.pivots }

-- without x0 and the line of w
abbrev pub shortened : Counted → Counted
shortened t = record { tableau = without_x0 t.tableau; pivots = t.pivots }

-- the same values, with 0 in column c
abbrev pub with_none : ℕ → Values → Values
with_none c v = record { q = v.q; column = λ d. if d == c then pos 0 else v.column d }

-- with 0 for x0, which is the last column, the values solve the lines of the rows and of z
abbrev pub SolvesWithout : Tableau → Values → (ℕ → ℤ) → Type 0
SolvesWithout t v owns = (i : ℕ) → i ≤ rows_of t → excess (line_of t i) (with_none (t.columns - 1) v) (owns i) ≡ pos 0
