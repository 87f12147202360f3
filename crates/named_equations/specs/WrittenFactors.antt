-- The written factors at the subscripts of the data, as whole numbers of so many decimal places, and the whole numbers on which they depend.
use Rattle.std.specs.Prelude.{ℕ, ◌/◌, ◌^◌, ℤ, pos, unsigned_abs}
use Rattle.discount_factors.specs.Factors.{annuity, capital_factor, operating_factor, recovery_factor, salvage_fraction}
use Rattle.model_sets.specs.Data.{Data}
use Rattle.named_equations.specs.Parameters.{discount_rate, discount_rate_idv, depreciation_method, operational_life}
use Rattle.named_equations.specs.Positions.{years_left}

-- DiscountRate[r], in billionths; accepted data have it from 0 to 1
abbrev pub rate_of : Data → ℕ → ℕ
rate_of d r = unsigned_abs (discount_rate d r)

-- DiscountRateIdv[r,t], in billionths, by which the technology's investment is spread over its life; accepted data have it from 0 to 1 under profile 2
abbrev pub own_rate_of : Data → ℕ → ℕ → ℕ
own_rate_of d r t = unsigned_abs (discount_rate_idv d r t)

-- DepreciationMethod[r]; accepted data have it 1, the sinking fund, or 2, the straight line
abbrev pub method_of : Data → ℕ → ℕ
method_of d r = unsigned_abs (depreciation_method d r) / 10 ^ 9

-- OperationalLife[r,t] in years; accepted data have a whole number from 1 to 200
abbrev pub life_of : Data → ℕ → ℕ → ℕ
life_of d r t = unsigned_abs (operational_life d r t) / 10 ^ 9

-- what 1 is worth n years before it is due, at the beginning of a year; it stands for 1 over DiscountFactor, rounded down
abbrev pub capital_factor_of : ℕ → Data → ℕ → ℕ → ℤ
capital_factor_of places d r n = pos (capital_factor places (rate_of d r) n)

-- what 1 is worth n years and a half before it is due, in the middle of a year; it stands for 1 over DiscountFactorMid, rounded down
abbrev pub operating_factor_of : ℕ → Data → ℕ → ℕ → ℤ
operating_factor_of places d r n = pos (operating_factor places (rate_of d r) n)

-- the part of an investment of year y that is left at the end of the model period, by this method
abbrev pub salvage_fraction_of : ℕ → Data → ℕ → ℕ → ℕ → ℕ → ℤ
salvage_fraction_of places d method r t y = pos (salvage_fraction places method (rate_of d r) (life_of d r t) (years_left d y))

-- what is paid each year of the technology's life for an investment of 1, at the technology's own rate: CapitalRecoveryFactor, rounded down
abbrev pub recovery_factor_of : ℕ → Data → ℕ → ℕ → ℤ
recovery_factor_of places d r t = pos (recovery_factor places (own_rate_of d r t) (life_of d r t))

-- what 1 in each year of the technology's life is worth at its beginning, at the region's rate: PvAnnuity, rounded down
abbrev pub annuity_of : ℕ → Data → ℕ → ℕ → ℤ
annuity_of places d r t = pos (annuity places (rate_of d r) (life_of d r t))
