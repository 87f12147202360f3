-- The entries of rows in the column of a variable.
use Rattle.std.specs.Prelude.{ℤ, List, map, filter}
use Rattle.std.specs.List.{flat_map}
use Rattle.std.specs.Ordering.{is_eq}
use Rattle.row_core.specs.declared.Row.{Row}
use Rattle.row_core.specs.declared.RowName.{RowName}
use Rattle.row_core.specs.declared.Var.{Var}
use Rattle.row_core.specs.Order.{var_cmp}

-- the number that a row has at a variable, if it has one, with the row's name
abbrev pub row_in_column : Var → Row → List (RowName × ℤ)
row_in_column v row = map (λ e. (row.name, e.1)) (filter (λ e. is_eq (var_cmp e.0 v)) row.entries.items)

-- the numbers at a variable, in the order of rows
abbrev pub column_of : List Row → Var → List (RowName × ℤ)
column_of rows v = flat_map (row_in_column v) rows
