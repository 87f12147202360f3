-- Sums over variables and over rows.
use Rattle.std.specs.Prelude.{ℤ, pos, ◌+ℤ◌, ◌*ℤ◌, List, [], ◌∷◌, Contains}
use Rattle.std.specs.List.{flat_map}
use Rattle.row_core.specs.declared.Row.{Row}
use Rattle.row_core.specs.declared.RowName.{RowName}
use Rattle.row_core.specs.declared.Var.{Var}
use Rattle.row_core.specs.Numbers.{variables_of}
use Rattle.row_core.specs.Rows.{number_at}

-- the sum of f over variables
abbrev pub sum_over : List Var → (Var → ℤ) → ℤ
sum_over [] f = pos 0
sum_over (v ∷ vs) f = f v +ℤ sum_over vs f

-- the sum over rows of the row's multiplier times f of the row
abbrev pub weighted : (RowName → ℤ) → (Row → ℤ) → List Row → ℤ
weighted y f [] = pos 0
weighted y f (row ∷ rows) = (y row.name *ℤ f row) +ℤ weighted y f rows

-- in the column of a variable, the sum of multiplier times entry
abbrev pub column_sum : (RowName → ℤ) → List Row → Var → ℤ
column_sum y rows v = weighted y (λ row. number_at row.entries.items v) rows

-- every variable at which a row has an entry is one of the list
abbrev pub HasVariablesOf : List Row → List Var → Type 0
HasVariablesOf rows vars = (v : Var) → Contains (flat_map (λ row. variables_of row.entries.items) rows) v → Contains vars v
