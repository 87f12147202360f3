-- Values that are far from those of the nearest years, in the order of the years in the file.
use Rattle.std.specs.Prelude.{ℕ, ◌+◌, ◌-◌, ℤ, pos, ◌*ℤ◌, Bool, ◌&&◌, ◌||◌, [], ◌∷◌, int_le, nat_eq, nat_le, if◌then◌else◌}
use Rattle.model_sets.specs.Data.{Data}
use Rattle.model_sets.specs.Names.{year}
use Rattle.model_sets.specs.declared.param_numbers.TheConstants.{SPECIFIED_ANNUAL_DEMAND, ACCUMULATED_ANNUAL_DEMAND, CAPITAL_COST, FIXED_COST, VARIABLE_COST, RESIDUAL_CAPACITY}
use Rattle.data_warnings.specs.declared.rules.Series.{Series}
use Rattle.data_warnings.specs.declared.rules.Series.TheVariants.{CapitalCost, FixedCost, VariableCost, SpecifiedAnnualDemand, AccumulatedAnnualDemand, ResidualCapacity}
use Rattle.data_warnings.specs.Values.{count, is_above_zero, value}

-- the value of the series for the region, the technology or fuel, the mode where it has one, and the year
abbrev pub series_value : Data → Series → ℕ → ℕ → ℕ → ℕ → ℤ
series_value d CapitalCost r i m y = value d CAPITAL_COST (r ∷ i ∷ y ∷ [])
series_value d FixedCost r i m y = value d FIXED_COST (r ∷ i ∷ y ∷ [])
series_value d VariableCost r i m y = value d VARIABLE_COST (r ∷ i ∷ m ∷ y ∷ [])
series_value d SpecifiedAnnualDemand r i m y = value d SPECIFIED_ANNUAL_DEMAND (r ∷ i ∷ y ∷ [])
series_value d AccumulatedAnnualDemand r i m y = value d ACCUMULATED_ANNUAL_DEMAND (r ∷ i ∷ y ∷ [])
series_value d ResidualCapacity r i m y = value d RESIDUAL_CAPACITY (r ∷ i ∷ y ∷ [])

-- the nearest year: the one before, and for the first year the second
abbrev pub nearest : ℕ → ℕ
nearest y = if nat_eq y 0 then 1 else y - 1

-- the other one: the one after, but for the first year the third, and for the last the last but two
abbrev pub other_nearest : ℕ → ℕ → ℕ
other_nearest years y = if nat_eq y 0 then 2 else if nat_eq (y + 1) years then y - 2 else y + 1

-- eight times as much
abbrev pub eightfold : ℤ → ℤ
eightfold v = pos 8 *ℤ v

-- the first is eight times the second or more
abbrev pub dwarfs : ℤ → ℤ → Bool
dwarfs v w = int_le (eightfold w) v

-- all three are above 0, and the first is eight times the others or more, or each of them eight times the first or more
abbrev pub is_far : ℤ → ℤ → ℤ → Bool
is_far v near other =
    is_above_zero v && is_above_zero near && is_above_zero other && (dwarfs v near && dwarfs v other || dwarfs near v && dwarfs other v)

-- the value of the year is far from those of the nearest years, where there are three years or more
abbrev pub is_outlier : Data → Series → ℕ → ℕ → ℕ → ℕ → Bool
is_outlier d series r i m y =
    nat_le 3 (count d year)
    && is_far (series_value d series r i m y) (series_value d series r i m (nearest y)) (series_value d series r i m (other_nearest (count d year) y))
