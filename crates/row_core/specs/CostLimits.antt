-- The name of the row that limits the cost.
use Rattle.row_core.specs.declared.RowName.{RowName}
use Rattle.row_core.specs.declared.cost_limit.TheConstants.{SPAN}

-- it has no subscripts
abbrev pub span_name : RowName
span_name = record { eq = SPAN; index = record { region = 0; other = 0; slice = 0; tech = 0; fuel = 0; emission = 0; mode = 0; year = 0 } }
