-- Limits on capacity, on new capacity and on activity of the OSeMOSYS long code as terms: the rows of TCC1, TCC2, NCC1, NCC2, AAC1 to AAC3, and TAC1 to TAC3.
use Rattle.std.specs.Prelude.{ℕ}
use Rattle.model_sets.specs.Data.{Data}
use Rattle.row_core.specs.declared.Sense.TheVariants.{Least, Most}
use Rattle.row_core.specs.Amounts.{Billionths}
use Rattle.row_core.specs.EquationTerms.{EquationTerms}
use Rattle.named_equations.specs.Parameters.{year_split, total_annual_max_capacity, total_annual_min_capacity, total_annual_max_capacity_investment, total_annual_min_capacity_investment, total_technology_annual_activity_upper_limit, total_technology_annual_activity_lower_limit, total_technology_model_period_activity_upper_limit, total_technology_model_period_activity_lower_limit}
use Rattle.named_equations.specs.Positions.{timeslices, all_years}
use Rattle.named_equations.specs.Variables.{new_capacity, total_capacity_annual, rate_of_total_activity, total_technology_annual_activity, total_technology_model_period_activity}
use Rattle.named_equations.specs.TermShapes.{is_limited, is_made_of, sum_away, products_away}

-- ---- total capacity

-- TCC1[r,t,y]: TotalCapacityAnnual <= TotalAnnualMaxCapacity
abbrev pub tcc1 : Data → ℕ → ℕ → ℕ → EquationTerms
tcc1 d r t y = is_limited Most (total_capacity_annual r t y) (total_annual_max_capacity d r t y)

-- TCC2[r,t,y]: TotalCapacityAnnual >= TotalAnnualMinCapacity
abbrev pub tcc2 : Data → ℕ → ℕ → ℕ → EquationTerms
tcc2 d r t y = is_limited Least (total_capacity_annual r t y) (total_annual_min_capacity d r t y)

-- ---- new capacity

-- NCC1[r,t,y]: NewCapacity <= TotalAnnualMaxCapacityInvestment
abbrev pub ncc1 : Data → ℕ → ℕ → ℕ → EquationTerms
ncc1 d r t y = is_limited Most (new_capacity r t y) (total_annual_max_capacity_investment d r t y)

-- NCC2[r,t,y]: NewCapacity >= TotalAnnualMinCapacityInvestment
abbrev pub ncc2 : Data → ℕ → ℕ → ℕ → EquationTerms
ncc2 d r t y = is_limited Least (new_capacity r t y) (total_annual_min_capacity_investment d r t y)

-- ---- activity

-- AAC1[r,t,y]: TotalTechnologyAnnualActivity is the sum over l of RateOfTotalActivity * YearSplit
abbrev pub aac1 : Data → ℕ → ℕ → ℕ → EquationTerms
aac1 d r t y =
    is_made_of (total_technology_annual_activity r t y) (products_away (timeslices d) (λ l. rate_of_total_activity r l t y) (λ l. Billionths (year_split d l y)))

-- AAC2[r,t,y]: TotalTechnologyAnnualActivity <= TotalTechnologyAnnualActivityUpperLimit
abbrev pub aac2 : Data → ℕ → ℕ → ℕ → EquationTerms
aac2 d r t y = is_limited Most (total_technology_annual_activity r t y) (total_technology_annual_activity_upper_limit d r t y)

-- AAC3[r,t,y]: TotalTechnologyAnnualActivity >= TotalTechnologyAnnualActivityLowerLimit
abbrev pub aac3 : Data → ℕ → ℕ → ℕ → EquationTerms
aac3 d r t y = is_limited Least (total_technology_annual_activity r t y) (total_technology_annual_activity_lower_limit d r t y)

-- TAC1[r,t]: TotalTechnologyModelPeriodActivity is the sum over y of TotalTechnologyAnnualActivity
abbrev pub tac1 : Data → ℕ → ℕ → EquationTerms
tac1 d r t = is_made_of (total_technology_model_period_activity r t) (sum_away (all_years d) (λ y. total_technology_annual_activity r t y))

-- TAC2[r,t]: TotalTechnologyModelPeriodActivity <= TotalTechnologyModelPeriodActivityUpperLimit
abbrev pub tac2 : Data → ℕ → ℕ → EquationTerms
tac2 d r t = is_limited Most (total_technology_model_period_activity r t) (total_technology_model_period_activity_upper_limit d r t)

-- TAC3[r,t]: TotalTechnologyModelPeriodActivity >= TotalTechnologyModelPeriodActivityLowerLimit
abbrev pub tac3 : Data → ℕ → ℕ → EquationTerms
tac3 d r t = is_limited Least (total_technology_model_period_activity r t) (total_technology_model_period_activity_lower_limit d r t)
