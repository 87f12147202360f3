-- Lists of rows: their names, and the variables that they have.
use Rattle.std.specs.Prelude.{◌≡◌, true, List, map, Contains, ◌↔◌}
use Rattle.std.specs.List.{flat_map}
use Rattle.row_core.specs.declared.Row.{Row}
use Rattle.row_core.specs.declared.RowName.{RowName}
use Rattle.row_core.specs.declared.Var.{Var}
use Rattle.row_core.specs.Numbers.{ascends, variables_of}
use Rattle.row_core.specs.Order.{var_cmp}

-- the names of the rows
abbrev pub names_of : List Row → List RowName
names_of rows = map (λ row. row.name) rows

-- the variables of all entries, row by row
abbrev pub entry_variables : List Row → List Var
entry_variables rows = flat_map (λ row. variables_of row.entries.items) rows

-- the list ascends strictly, and has a variable exactly where some row has an entry at it
pub record AreVariablesOf (rows : List Row) (vars : List Var) : Type 0 where
  pub ascending : ascends var_cmp vars ≡ true
  pub each : (v : Var) → Contains vars v ↔ Contains (entry_variables rows) v
