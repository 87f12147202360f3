-- Rows in order, and their variables.
use Rattle.std.specs.Prelude.{◌≡◌, true, Contains, List}
use Rattle.row_core.specs.declared.Row.{Row}
use Rattle.row_core.specs.declared.Var.{Var}
use Rattle.row_core.specs.Numbers.{ascends}
use Rattle.row_core.specs.Order.{row_name_cmp, var_cmp}
use Rattle.row_core.specs.RowLists.{entry_variables, names_of}

-- the rows ascend strictly by name, and the variables strictly, the variable of each entry among them
pub record AreListed (rows : List Row) (vars : List Var) : Type 0 where
  pub named : ascends row_name_cmp (names_of rows) ≡ true
  pub ascending : ascends var_cmp vars ≡ true
  pub listed : (v : Var) → Contains (entry_variables rows) v → Contains vars v
