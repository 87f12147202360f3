-- Values and multipliers of the last state.
use Rattle.std.specs.Prelude.{ℕ, suc, ◌+◌, ℤ, pos, ◌*ℤ◌, int_lt, List, [], ◌∷◌, ◌++◌, length, slice_index_or, slice_set, Option, Some, None, if◌then◌else◌}
use Rattle.row_problem.specs.Prelude.{fold, difference_formed, all_fit, Rational, lowest, minus, whole, Var, is_zero, is_split, Values}
use Rattle.int_tableau.specs.Starts.{after_columns}
use Rattle.decimal_solver.specs.Folds.{folded}
use Rattle.decimal_solver.specs.Lines.{Entries}
use Rattle.decimal_solver.specs.Numbers.{and_then, formed, unit}
use Rattle.decimal_solver.specs.Rounds.{clipped}
use Rattle.decimal_solver.specs.States.{GridRow}

-- the values with that of a row
abbrev pub with_basic : List Rational → GridRow → List Rational
with_basic values row = slice_set values row.basic (lowest (clipped row.line.right) (pos unit))

-- a basic column's value is its right side over 10^9, or 0 where that is negative; all others are 0
unfoldable pub column_values : List Rational → List GridRow → List Rational
column_values values rows = fold with_basic values rows

-- a difference of fractions that is formed
abbrev pub difference : Rational → Rational → Option Rational
difference x y = if all_fit (difference_formed x y) then Some (minus x y) else None

abbrev pub value_in_column : List Rational → ℕ → Rational
value_in_column values c = slice_index_or values c (whole (pos 0))

-- the value of a variable whose first column is c: one that may be negative is its positive part less its negative part
abbrev pub variable_value : List Rational → ℕ → Var → Option Rational
variable_value values c v = if is_split v then difference (value_in_column values c) (value_in_column values (suc c)) else Some (value_in_column values c)

-- the next column, and the values so far
abbrev pub with_value : List Rational → ℕ × Values → Var → Option (ℕ × Values)
with_value values s v = and_then (variable_value values s.0 v) (λ x. Some (after_columns (is_split v) s.0, s.1 ++ (v, x) ∷ []))

-- the values of variables from column c on
unfoldable pub variable_values : List Rational → ℕ → Values → List Var → Option Values
variable_values values c made vs = and_then (folded (with_value values) (c, made) vs) (λ s. Some s.1)

-- the numbers with that of an entry
abbrev pub with_number : List ℤ → ℕ × ℤ → List ℤ
with_number numbers e = slice_set numbers e.0 e.1

-- the entries as a list with a number for each column
unfoldable pub spread : List ℤ → Entries → List ℤ
spread numbers es = fold with_number numbers es

-- an entry above 0 counts as 0
abbrev pub at_most_0 : ℤ → ℤ
at_most_0 z = if int_lt (pos 0) z then pos 0 else z

-- the multiplier of a row by the entry of its slack in the line of z, over 10^9 times the row's scale. No scale is 0; one of 0 would give nothing
abbrev pub row_multiplier : ℤ → ℤ → Option Rational
row_multiplier y scale = and_then (formed (pos unit *ℤ scale)) (λ d. if is_zero d then None else Some (lowest y d))

-- the multipliers with that of one more row, whose slack stands after those of the rows before
abbrev pub with_multiplier : List ℤ → ℕ → List Rational → GridRow → Option (List Rational)
with_multiplier numbers c made row = and_then (row_multiplier (at_most_0 (slice_index_or numbers (c + length made) (pos 0))) row.scale) (λ x. Some (made ++ x ∷ []))

-- the multipliers of rows whose slacks stand from column c on
unfoldable pub row_multipliers : List ℤ → ℕ → List Rational → List GridRow → Option (List Rational)
row_multipliers numbers c made rows = folded (with_multiplier numbers c) made rows
