-- Salvage value of the OSeMOSYS long code: what an investment that outlasts the model period is worth at its end.
use Rattle.std.specs.Prelude.{ℕ, ◌+◌, ℤ, pos, ◌*ℤ◌, Bool, not, ◌&&◌, ◌||◌, nat_eq, nat_lt}
use Rattle.model_sets.specs.Data.{Data}
use Rattle.model_sets.specs.Members.{last_year}
use Rattle.row_core.specs.declared.Var.{Var}
use Rattle.row_core.specs.Statements.{Statement}
use Rattle.named_equations.specs.Notation.{◌equals◌, scale_of, factor_scale}
use Rattle.named_equations.specs.Parameters.{capital_cost}
use Rattle.named_equations.specs.Positions.{number_of_year, years_in_all}
use Rattle.named_equations.specs.Variables.{new_capacity, salvage_value, discounted_salvage_value}
use Rattle.named_equations.specs.WrittenFactors.{rate_of, method_of, life_of, capital_factor_of, salvage_fraction_of}

-- what is built in year y lasts past the last year: y + OperationalLife[r,t] - 1 > last
abbrev pub outlasts : Data → ℕ → ℕ → ℕ → Bool
outlasts d r t y = nat_lt (last_year d.sets + 1) (number_of_year d y + life_of d r t)

-- the region depreciates by the sinking fund: DepreciationMethod is 1, and the rate is above 0
abbrev pub by_sinking_fund : Data → ℕ → Bool
by_sinking_fund d r = nat_eq (method_of d r) 1 && nat_lt 0 (rate_of d r)

-- the region depreciates by the straight line: DepreciationMethod is 2, or it is 1 and the rate is 0
abbrev pub by_straight_line : Data → ℕ → Bool
by_straight_line d r = nat_eq (method_of d r) 2 || (nat_eq (method_of d r) 1 && nat_eq (rate_of d r) 0)

-- where SV1 stands
abbrev pub has_sv1 : Data → ℕ → ℕ → ℕ → Bool
has_sv1 d r t y = outlasts d r t y && by_sinking_fund d r

-- where SV2 stands
abbrev pub has_sv2 : Data → ℕ → ℕ → ℕ → Bool
has_sv2 d r t y = outlasts d r t y && by_straight_line d r

-- where SV3 stands: where neither SV1 nor SV2 does
abbrev pub has_sv3 : Data → ℕ → ℕ → ℕ → Bool
has_sv3 d r t y = not (has_sv1 d r t y) && not (has_sv2 d r t y)

-- SV1_SalvageValueAtEndOfPeriod1[r,t,y]: the salvage value is the part of the investment that the sinking fund leaves; times 10^9 and the scale of a factor
abbrev pub sv1 : ℕ → Data → ℕ → (Var → ℤ) → ℕ → ℕ → ℕ → Statement
sv1 places d q x r t y =
    scale_of 1 *ℤ factor_scale places *ℤ x (salvage_value r t y)
    equals capital_cost d r t y *ℤ x (new_capacity r t y) *ℤ salvage_fraction_of places d 1 r t y

-- SV2_SalvageValueAtEndOfPeriod2[r,t,y]: the salvage value is the part of the investment that the straight line leaves; times 10^9 and the scale of a factor
abbrev pub sv2 : ℕ → Data → ℕ → (Var → ℤ) → ℕ → ℕ → ℕ → Statement
sv2 places d q x r t y =
    scale_of 1 *ℤ factor_scale places *ℤ x (salvage_value r t y)
    equals capital_cost d r t y *ℤ x (new_capacity r t y) *ℤ salvage_fraction_of places d 2 r t y

-- SV3_SalvageValueAtEndOfPeriod3[r,t,y]: nothing is left
abbrev pub sv3 : Data → ℕ → (Var → ℤ) → ℕ → ℕ → ℕ → Statement
sv3 d q x r t y = x (salvage_value r t y) equals pos 0

-- SV4_SalvageValueDiscountedToStartYear[r,t,y]: the discounted salvage value is due when the last year is over; times the scale of a factor
abbrev pub sv4 : ℕ → Data → ℕ → (Var → ℤ) → ℕ → ℕ → ℕ → Statement
sv4 places d q x r t y =
    factor_scale places *ℤ x (discounted_salvage_value r t y)
    equals x (salvage_value r t y) *ℤ capital_factor_of places d r (years_in_all d)
