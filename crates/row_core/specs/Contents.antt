-- What a row says, whatever memory holds it.
use Rattle.std.specs.Prelude.{ℤ, List}
use Rattle.row_core.specs.declared.Row.{Row}
use Rattle.row_core.specs.declared.RowName.{RowName}
use Rattle.row_core.specs.declared.Sense.{Sense}
use Rattle.row_core.specs.declared.Var.{Var}

-- a name, and the sum of each variable times its number, which stands in this sense to the right side
pub record RowContents : Type 0 where
  pub name : RowName
  pub sense : Sense
  pub entries : List (Var × ℤ)
  pub rhs : ℤ

-- what the row says
abbrev pub contents_of : Row → RowContents
contents_of row = record { name = row.name; sense = row.sense; entries = row.entries.items; rhs = row.rhs }
