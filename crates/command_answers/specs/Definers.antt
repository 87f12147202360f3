-- Which row of a book defines which variable.
use Rattle.std.specs.Prelude.{List, map, Option}
use Rattle.row_core.specs.declared.Row.{Row}
use Rattle.row_core.specs.declared.Var.{Var}
use Rattle.named_equations.specs.Instances.{variable_of}

-- the variable that the row defines: that of the named equation that it is the row of
abbrev pub definer : Row → Option Var
definer row = variable_of row.name

abbrev pub definers : List Row → List (Option Var)
definers rows = map definer rows
