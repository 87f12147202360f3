-- The columns of the reduced rows.
use Rattle.std.specs.Prelude.{◌≡◌, true, List, Contains, ◌↔◌}
use Rattle.row_core.specs.declared.Row.{Row}
use Rattle.row_core.specs.declared.Var.{Var}
use Rattle.row_core.specs.Numbers.{ascends}
use Rattle.row_core.specs.Order.{var_cmp}
use Rattle.written_method.specs.Eliminated.{column_entries, is_column}

-- the list ascends strictly, and has each freely chosen variable at which some row has an entry
pub record AreColumns (rows : List Row) (columns : List Var) : Type 0 where
  pub ascending : ascends var_cmp columns ≡ true
  pub each : (v : Var) → Contains columns v ↔ Contains (column_entries rows) v

-- each variable of the list is one that a plan chooses freely
abbrev pub AreChosen : List Var → Type 0
AreChosen columns = (v : Var) → Contains columns v → is_column v ≡ true
