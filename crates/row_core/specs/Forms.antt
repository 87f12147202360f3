-- The entries and the right side of a row, without its name and its sense.
use Rattle.std.specs.Prelude.{ℤ, List}
use Rattle.row_core.specs.declared.Row.{Row}
use Rattle.row_core.specs.declared.Var.{Var}

-- entries and a right side
pub record Form : Type 0 where
  pub entries : List (Var × ℤ)
  pub right : ℤ

abbrev pub form_of : Row → Form
form_of row = record { entries = row.entries.items; right = row.rhs }
