-- The costs of the OSeMOSYS long code as terms: the rows of CC1 and CC2, SV1 to SV4, OC1 to OC4, TDC1 and TDC2, and Acc4.
use Rattle.std.specs.Prelude.{ℕ, [], ◌∷◌, if◌then◌else◌}
use Rattle.model_sets.specs.Data.{Data}
use Rattle.row_core.specs.Amounts.{Amount, Billionths, Factor, Product}
use Rattle.row_core.specs.EquationTerms.{EquationTerms, once, less}
use Rattle.named_equations.specs.Parameters.{capital_cost, variable_cost, fixed_cost}
use Rattle.named_equations.specs.Positions.{technologies, modes, all_years, years_since_first, years_in_all}
use Rattle.named_equations.specs.TermShapes.{is_made_of, is_times, sum_away, products_away}
use Rattle.named_equations.specs.Variables.{new_capacity, total_capacity_annual, total_annual_technology_activity_by_mode, capital_investment, discounted_capital_investment, salvage_value, discounted_salvage_value, annual_variable_operating_cost, annual_fixed_operating_cost, operating_cost, discounted_operating_cost, discounted_technology_emissions_penalty, total_discounted_cost_by_technology, total_discounted_cost, model_period_cost_by_region}
use Rattle.named_equations.specs.WrittenFactors.{annuity_of, capital_factor_of, operating_factor_of, recovery_factor_of, salvage_fraction_of}

-- ---- investment

-- CapitalCost * c * g, c being the recovery factor and g the annuity of the technology's life
abbrev pub recovered_cost : ℕ → Data → ℕ → ℕ → ℕ → Amount
recovered_cost places d r t y =
    Product (Product (Billionths (capital_cost d r t y)) (Factor places (recovery_factor_of places d r t))) (Factor places (annuity_of places d r t))

-- the investment in a unit of capacity that is built in the year: CapitalCost under profile 1, and under profile 2 what is recovered of it
abbrev pub investment_in_unit : ℕ → Data → ℕ → ℕ → ℕ → Amount
investment_in_unit places d r t y = if d.second then recovered_cost places d r t y else Billionths (capital_cost d r t y)

-- CC1[r,t,y]: CapitalInvestment - NewCapacity * the investment in a unit = 0
abbrev pub cc1 : ℕ → Data → ℕ → ℕ → ℕ → EquationTerms
cc1 places d r t y = is_times (capital_investment r t y) (new_capacity r t y) (investment_in_unit places d r t y)

-- CC2[r,t,y]: DiscountedCapitalInvestment - CapitalInvestment * f = 0, f being the capital factor of the years since the first
abbrev pub cc2 : ℕ → Data → ℕ → ℕ → ℕ → EquationTerms
cc2 places d r t y = is_times (discounted_capital_investment r t y) (capital_investment r t y) (Factor places (capital_factor_of places d r (years_since_first d y)))

-- ---- salvage value

-- the salvage value of a unit of capacity that is built in the year, by this method: CapitalCost * s
abbrev pub salvage_value_of_unit : ℕ → Data → ℕ → ℕ → ℕ → ℕ → Amount
salvage_value_of_unit places d method r t y = Product (Billionths (capital_cost d r t y)) (Factor places (salvage_fraction_of places d method r t y))

-- SV1 and SV2[r,t,y]: SalvageValue - NewCapacity * (CapitalCost * s) = 0, s being the fraction of this method, the sinking fund (1) or the straight line (2)
abbrev pub salvage_by_method : ℕ → Data → ℕ → ℕ → ℕ → ℕ → EquationTerms
salvage_by_method places d method r t y = is_times (salvage_value r t y) (new_capacity r t y) (salvage_value_of_unit places d method r t y)

-- SV3[r,t,y]: SalvageValue = 0
abbrev pub sv3 : Data → ℕ → ℕ → ℕ → EquationTerms
sv3 d r t y = is_made_of (salvage_value r t y) []

-- SV4[r,t,y]: DiscountedSalvageValue - SalvageValue * f = 0, f being the capital factor of all years of the model period
abbrev pub sv4 : ℕ → Data → ℕ → ℕ → ℕ → EquationTerms
sv4 places d r t y = is_times (discounted_salvage_value r t y) (salvage_value r t y) (Factor places (capital_factor_of places d r (years_in_all d)))

-- ---- operating cost

-- OC1[r,t,y]: AnnualVariableOperatingCost is the sum over m of TotalAnnualTechnologyActivityByMode * VariableCost
abbrev pub oc1 : Data → ℕ → ℕ → ℕ → EquationTerms
oc1 d r t y =
    is_made_of (annual_variable_operating_cost r t y) (products_away (modes d) (λ m. total_annual_technology_activity_by_mode r t m y) (λ m. Billionths (variable_cost d r t m y)))

-- OC2[r,t,y]: AnnualFixedOperatingCost - TotalCapacityAnnual * FixedCost = 0
abbrev pub oc2 : Data → ℕ → ℕ → ℕ → EquationTerms
oc2 d r t y = is_times (annual_fixed_operating_cost r t y) (total_capacity_annual r t y) (Billionths (fixed_cost d r t y))

-- OC3[r,t,y]: OperatingCost - AnnualVariableOperatingCost - AnnualFixedOperatingCost = 0
abbrev pub oc3 : Data → ℕ → ℕ → ℕ → EquationTerms
oc3 d r t y = is_made_of (operating_cost r t y) (less (annual_variable_operating_cost r t y) ∷ less (annual_fixed_operating_cost r t y) ∷ [])

-- OC4[r,t,y]: DiscountedOperatingCost - OperatingCost * o = 0, o being the operating factor of the years since the first
abbrev pub oc4 : ℕ → Data → ℕ → ℕ → ℕ → EquationTerms
oc4 places d r t y = is_times (discounted_operating_cost r t y) (operating_cost r t y) (Factor places (operating_factor_of places d r (years_since_first d y)))

-- ---- total cost

-- TDC1[r,t,y]: TotalDiscountedCostByTechnology - DiscountedOperatingCost - DiscountedCapitalInvestment - DiscountedTechnologyEmissionsPenalty + DiscountedSalvageValue = 0
abbrev pub tdc1 : Data → ℕ → ℕ → ℕ → EquationTerms
tdc1 d r t y =
    is_made_of (total_discounted_cost_by_technology r t y)
    (less (discounted_operating_cost r t y) ∷ less (discounted_capital_investment r t y)
    ∷ less (discounted_technology_emissions_penalty r t y) ∷ once (discounted_salvage_value r t y) ∷ [])

-- TDC2[r,y]: TotalDiscountedCost is the sum over t of TotalDiscountedCostByTechnology
abbrev pub tdc2 : Data → ℕ → ℕ → EquationTerms
tdc2 d r y = is_made_of (total_discounted_cost r y) (sum_away (technologies d) (λ t. total_discounted_cost_by_technology r t y))

-- Acc4[r]: ModelPeriodCostByRegion is the sum over y of TotalDiscountedCost
abbrev pub acc4 : Data → ℕ → EquationTerms
acc4 d r = is_made_of (model_period_cost_by_region r) (sum_away (all_years d) (λ y. total_discounted_cost r y))
