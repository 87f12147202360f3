-- What the last tableau gives: values of the columns and of the variables, a direction, and multipliers of the rows.
use Rattle.std.specs.Prelude.{ℕ, suc, ◌==◌, ℤ, pos, neg_ℤ, List, [], ◌∷◌, Option, Some, None, if◌then◌else◌}
use Rattle.exact_num.specs.Formed.{difference_formed}
use Rattle.exact_num.specs.Rational.{Rational, lowest, minus, whole}
use Rattle.exact_num.specs.Steps.{Step}
use Rattle.row_core.specs.declared.Var.{Var}
use Rattle.row_core.specs.declared.place.Place.{Place}
use Rattle.written_method.specs.FirstTableau.{as_most}
use Rattle.written_method.specs.Lines.{Line, entry_of}
use Rattle.written_method.specs.Programs.{Inequality, is_split}
use Rattle.written_method.specs.Tableaus.{Tableau, line_of}

-- the row in which a column is basic, from row `at` on
abbrev pub row_of_basic : ℕ → ℕ → List ℕ → Option ℕ
row_of_basic c at [] = None
row_of_basic c at (b ∷ bs) = if b == c then Some at else row_of_basic c (suc at) bs

-- what a row gives its basic column: its right side by its own entry
abbrev pub share_of : Line → ℕ → Rational
share_of line c = lowest line.right (entry_of line c)

-- the value of a column: that of its row where it is basic, else 0
abbrev pub column_value : Tableau → ℕ → Rational
column_value t c = elim (row_of_basic c 0 t.basics) [ None ↦ whole (pos 0) | Some r ↦ share_of (line_of t r) c ]

-- what a row gives its basic column in the direction of column e: minus its entry there by its own entry
abbrev pub slope_of : Line → ℕ → ℕ → Rational
slope_of line e c = lowest (neg_ℤ (entry_of line e)) (entry_of line c)

-- the direction in which column e grows, in each column: 1 in e itself
abbrev pub column_direction : Tableau → ℕ → ℕ → Rational
column_direction t e c =
    if c == e then whole (pos 1) else (elim (row_of_basic c 0 t.basics) [ None ↦ whole (pos 0) | Some r ↦ slope_of (line_of t r) e c ])

-- the values of variables from those of columns: one that may be negative is its positive part less its negative part
abbrev pub by_variable : (ℕ → Rational) → ℕ → List Var → List (Var × Rational)
by_variable f c [] = []
by_variable f c (v ∷ vs) =
    if is_split v then (v, minus (f c) (f (suc c))) ∷ by_variable f (suc (suc c)) vs else (v, f c) ∷ by_variable f (suc c) vs

-- these differences are the only numbers that are formed, each at the place of its variable
abbrev pub by_variable_steps : (Var → Place) → (ℕ → Rational) → ℕ → List Var → List (Step Place)
by_variable_steps place f c [] = []
by_variable_steps place f c (v ∷ vs) =
    if is_split v
    then record { place = place v; formed = difference_formed (f c) (f (suc c)) } ∷ by_variable_steps place f (suc (suc c)) vs
    else by_variable_steps place f (suc c) vs

-- the multipliers of rows from the slack column `slack` on: the line's entry at the row's slack over d, with the sign of the row as it
-- was given
abbrev pub multipliers_from : ℕ → Line → ℤ → List Inequality → List Rational
multipliers_from slack line d [] = []
multipliers_from slack line d (row ∷ rows) = lowest (as_most row.sense (entry_of line slack)) d ∷ multipliers_from (suc slack) line d rows
