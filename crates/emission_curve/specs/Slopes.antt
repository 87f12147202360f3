-- The slope of a limit on the emissions of the model period: the multiplier of its row, E9[r,e], times what the row has at ModelPeriodEmissions[r,e]. By linear
-- programming duality it is what one unit more of the limit adds to the bound.
use Rattle.std.specs.Prelude.{ℤ, pos, List, [], ◌∷◌, if◌then◌else◌}
use Rattle.row_problem.specs.Prelude.{is_eq, product_formed, Rational, times, whole, Row, RowName, Var, MODEL_PERIOD_EMISSIONS, row_name_cmp, value_in, number_at, Multipliers}

-- the emissions of the model period with the subscripts of a row
abbrev pub emissions_of : RowName → Var
emissions_of name = record { kind = MODEL_PERIOD_EMISSIONS; index = name.index }

-- what a row has at those with its own subscripts
abbrev pub emissions_entry : Row → ℤ
emissions_entry row = number_at row.entries.items (emissions_of row.name)

-- what the first row of a name has there, 0 where there is no such row
abbrev pub entry_at : List Row → RowName → ℤ
entry_at [] limit = pos 0
entry_at (row ∷ rows) limit = if is_eq (row_name_cmp row.name limit) then emissions_entry row else entry_at rows limit

-- the slope, and what it forms
abbrev pub slope_at : List Row → Multipliers → RowName → Rational
slope_at rows multipliers limit = times (value_in row_name_cmp multipliers limit) (whole (entry_at rows limit))

abbrev pub slope_formed : List Row → Multipliers → RowName → List ℤ
slope_formed rows multipliers limit = product_formed (value_in row_name_cmp multipliers limit) (whole (entry_at rows limit))
