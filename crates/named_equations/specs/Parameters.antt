-- The parameters that are used, by name, each with its own subscripts in the order of the long code, and each subscript a position in its set.
-- A value is in billionths: the one given, else the default. Where there is neither it counts as 0; accepted data have all of them.
use Rattle.std.specs.Prelude.{ℕ, ℤ, pos, List, [], ◌∷◌, slice_index_or, unwrap_or}
use Rattle.model_sets.specs.declared.param_numbers.TheConstants.{YEAR_SPLIT, DISCOUNT_RATE, DEPRECIATION_METHOD, TRADE_ROUTE, SPECIFIED_ANNUAL_DEMAND, SPECIFIED_DEMAND_PROFILE, ACCUMULATED_ANNUAL_DEMAND, CAPACITY_TO_ACTIVITY_UNIT, CAPACITY_FACTOR, AVAILABILITY_FACTOR, OPERATIONAL_LIFE, RESIDUAL_CAPACITY, INPUT_ACTIVITY_RATIO, OUTPUT_ACTIVITY_RATIO, CAPITAL_COST, VARIABLE_COST, FIXED_COST, CAPACITY_OF_ONE_TECHNOLOGY_UNIT, TOTAL_ANNUAL_MAX_CAPACITY, TOTAL_ANNUAL_MIN_CAPACITY, TOTAL_ANNUAL_MAX_CAPACITY_INVESTMENT, TOTAL_ANNUAL_MIN_CAPACITY_INVESTMENT, TOTAL_TECHNOLOGY_ANNUAL_ACTIVITY_UPPER_LIMIT, TOTAL_TECHNOLOGY_ANNUAL_ACTIVITY_LOWER_LIMIT, TOTAL_TECHNOLOGY_MODEL_PERIOD_ACTIVITY_UPPER_LIMIT, TOTAL_TECHNOLOGY_MODEL_PERIOD_ACTIVITY_LOWER_LIMIT, RESERVE_MARGIN_TAG_TECHNOLOGY, RESERVE_MARGIN_TAG_FUEL, RESERVE_MARGIN, RE_TAG_TECHNOLOGY, RE_TAG_FUEL, RE_MIN_PRODUCTION_TARGET, EMISSION_ACTIVITY_RATIO, EMISSIONS_PENALTY, ANNUAL_EXOGENOUS_EMISSION, ANNUAL_EMISSION_LIMIT, MODEL_PERIOD_EXOGENOUS_EMISSION, MODEL_PERIOD_EMISSION_LIMIT, DISCOUNT_RATE_IDV}
use Rattle.model_sets.specs.Data.{Data, value_at}
use Rattle.model_sets.specs.Members.{members}
use Rattle.model_sets.specs.Names.{region, technology, fuel, emission, mode, timeslice, year}

-- ---- names of members

-- the member of set k at this position
abbrev pub member_name : Data → ℕ → ℕ → List ℕ
member_name d k i = slice_index_or (members d.sets k) i []

-- of REGION
abbrev pub region_name : Data → ℕ → List ℕ
region_name d i = member_name d region i

-- of TECHNOLOGY
abbrev pub technology_name : Data → ℕ → List ℕ
technology_name d i = member_name d technology i

-- of FUEL
abbrev pub fuel_name : Data → ℕ → List ℕ
fuel_name d i = member_name d fuel i

-- of EMISSION
abbrev pub emission_name : Data → ℕ → List ℕ
emission_name d i = member_name d emission i

-- of MODE_OF_OPERATION
abbrev pub mode_name : Data → ℕ → List ℕ
mode_name d i = member_name d mode i

-- of TIMESLICE
abbrev pub slice_name : Data → ℕ → List ℕ
slice_name d i = member_name d timeslice i

-- of YEAR
abbrev pub year_name : Data → ℕ → List ℕ
year_name d i = member_name d year i

-- ---- values

-- the value of the parameter of this number at the members of these names
abbrev pub value_of : Data → ℕ → List (List ℕ) → ℤ
value_of d param names = unwrap_or (value_at d param names) (pos 0)

-- YearSplit[l,y]
abbrev pub year_split : Data → ℕ → ℕ → ℤ
year_split d l y = value_of d YEAR_SPLIT (slice_name d l ∷ year_name d y ∷ [])

-- DiscountRate[r]
abbrev pub discount_rate : Data → ℕ → ℤ
discount_rate d r = value_of d DISCOUNT_RATE (region_name d r ∷ [])

-- DepreciationMethod[r]
abbrev pub depreciation_method : Data → ℕ → ℤ
depreciation_method d r = value_of d DEPRECIATION_METHOD (region_name d r ∷ [])

-- TradeRoute[r,rr,f,y]
abbrev pub trade_route : Data → ℕ → ℕ → ℕ → ℕ → ℤ
trade_route d r rr f y = value_of d TRADE_ROUTE (region_name d r ∷ region_name d rr ∷ fuel_name d f ∷ year_name d y ∷ [])

-- SpecifiedAnnualDemand[r,f,y]
abbrev pub specified_annual_demand : Data → ℕ → ℕ → ℕ → ℤ
specified_annual_demand d r f y = value_of d SPECIFIED_ANNUAL_DEMAND (region_name d r ∷ fuel_name d f ∷ year_name d y ∷ [])

-- SpecifiedDemandProfile[r,f,l,y]
abbrev pub specified_demand_profile : Data → ℕ → ℕ → ℕ → ℕ → ℤ
specified_demand_profile d r f l y = value_of d SPECIFIED_DEMAND_PROFILE (region_name d r ∷ fuel_name d f ∷ slice_name d l ∷ year_name d y ∷ [])

-- AccumulatedAnnualDemand[r,f,y]
abbrev pub accumulated_annual_demand : Data → ℕ → ℕ → ℕ → ℤ
accumulated_annual_demand d r f y = value_of d ACCUMULATED_ANNUAL_DEMAND (region_name d r ∷ fuel_name d f ∷ year_name d y ∷ [])

-- CapacityToActivityUnit[r,t]
abbrev pub capacity_to_activity_unit : Data → ℕ → ℕ → ℤ
capacity_to_activity_unit d r t = value_of d CAPACITY_TO_ACTIVITY_UNIT (region_name d r ∷ technology_name d t ∷ [])

-- CapacityFactor[r,t,l,y]
abbrev pub capacity_factor : Data → ℕ → ℕ → ℕ → ℕ → ℤ
capacity_factor d r t l y = value_of d CAPACITY_FACTOR (region_name d r ∷ technology_name d t ∷ slice_name d l ∷ year_name d y ∷ [])

-- AvailabilityFactor[r,t,y]
abbrev pub availability_factor : Data → ℕ → ℕ → ℕ → ℤ
availability_factor d r t y = value_of d AVAILABILITY_FACTOR (region_name d r ∷ technology_name d t ∷ year_name d y ∷ [])

-- OperationalLife[r,t]
abbrev pub operational_life : Data → ℕ → ℕ → ℤ
operational_life d r t = value_of d OPERATIONAL_LIFE (region_name d r ∷ technology_name d t ∷ [])

-- ResidualCapacity[r,t,y]
abbrev pub residual_capacity : Data → ℕ → ℕ → ℕ → ℤ
residual_capacity d r t y = value_of d RESIDUAL_CAPACITY (region_name d r ∷ technology_name d t ∷ year_name d y ∷ [])

-- InputActivityRatio[r,t,f,m,y]
abbrev pub input_activity_ratio : Data → ℕ → ℕ → ℕ → ℕ → ℕ → ℤ
input_activity_ratio d r t f m y = value_of d INPUT_ACTIVITY_RATIO (region_name d r ∷ technology_name d t ∷ fuel_name d f ∷ mode_name d m ∷ year_name d y ∷ [])

-- OutputActivityRatio[r,t,f,m,y]
abbrev pub output_activity_ratio : Data → ℕ → ℕ → ℕ → ℕ → ℕ → ℤ
output_activity_ratio d r t f m y = value_of d OUTPUT_ACTIVITY_RATIO (region_name d r ∷ technology_name d t ∷ fuel_name d f ∷ mode_name d m ∷ year_name d y ∷ [])

-- CapitalCost[r,t,y]
abbrev pub capital_cost : Data → ℕ → ℕ → ℕ → ℤ
capital_cost d r t y = value_of d CAPITAL_COST (region_name d r ∷ technology_name d t ∷ year_name d y ∷ [])

-- VariableCost[r,t,m,y]
abbrev pub variable_cost : Data → ℕ → ℕ → ℕ → ℕ → ℤ
variable_cost d r t m y = value_of d VARIABLE_COST (region_name d r ∷ technology_name d t ∷ mode_name d m ∷ year_name d y ∷ [])

-- FixedCost[r,t,y]
abbrev pub fixed_cost : Data → ℕ → ℕ → ℕ → ℤ
fixed_cost d r t y = value_of d FIXED_COST (region_name d r ∷ technology_name d t ∷ year_name d y ∷ [])

-- CapacityOfOneTechnologyUnit[r,t,y]
abbrev pub capacity_of_one_technology_unit : Data → ℕ → ℕ → ℕ → ℤ
capacity_of_one_technology_unit d r t y = value_of d CAPACITY_OF_ONE_TECHNOLOGY_UNIT (region_name d r ∷ technology_name d t ∷ year_name d y ∷ [])

-- TotalAnnualMaxCapacity[r,t,y]
abbrev pub total_annual_max_capacity : Data → ℕ → ℕ → ℕ → ℤ
total_annual_max_capacity d r t y = value_of d TOTAL_ANNUAL_MAX_CAPACITY (region_name d r ∷ technology_name d t ∷ year_name d y ∷ [])

-- TotalAnnualMinCapacity[r,t,y]
abbrev pub total_annual_min_capacity : Data → ℕ → ℕ → ℕ → ℤ
total_annual_min_capacity d r t y = value_of d TOTAL_ANNUAL_MIN_CAPACITY (region_name d r ∷ technology_name d t ∷ year_name d y ∷ [])

-- TotalAnnualMaxCapacityInvestment[r,t,y]
abbrev pub total_annual_max_capacity_investment : Data → ℕ → ℕ → ℕ → ℤ
total_annual_max_capacity_investment d r t y = value_of d TOTAL_ANNUAL_MAX_CAPACITY_INVESTMENT (region_name d r ∷ technology_name d t ∷ year_name d y ∷ [])

-- TotalAnnualMinCapacityInvestment[r,t,y]
abbrev pub total_annual_min_capacity_investment : Data → ℕ → ℕ → ℕ → ℤ
total_annual_min_capacity_investment d r t y = value_of d TOTAL_ANNUAL_MIN_CAPACITY_INVESTMENT (region_name d r ∷ technology_name d t ∷ year_name d y ∷ [])

-- TotalTechnologyAnnualActivityUpperLimit[r,t,y]
abbrev pub total_technology_annual_activity_upper_limit : Data → ℕ → ℕ → ℕ → ℤ
total_technology_annual_activity_upper_limit d r t y = value_of d TOTAL_TECHNOLOGY_ANNUAL_ACTIVITY_UPPER_LIMIT (region_name d r ∷ technology_name d t ∷ year_name d y ∷ [])

-- TotalTechnologyAnnualActivityLowerLimit[r,t,y]
abbrev pub total_technology_annual_activity_lower_limit : Data → ℕ → ℕ → ℕ → ℤ
total_technology_annual_activity_lower_limit d r t y = value_of d TOTAL_TECHNOLOGY_ANNUAL_ACTIVITY_LOWER_LIMIT (region_name d r ∷ technology_name d t ∷ year_name d y ∷ [])

-- TotalTechnologyModelPeriodActivityUpperLimit[r,t]
abbrev pub total_technology_model_period_activity_upper_limit : Data → ℕ → ℕ → ℤ
total_technology_model_period_activity_upper_limit d r t = value_of d TOTAL_TECHNOLOGY_MODEL_PERIOD_ACTIVITY_UPPER_LIMIT (region_name d r ∷ technology_name d t ∷ [])

-- TotalTechnologyModelPeriodActivityLowerLimit[r,t]
abbrev pub total_technology_model_period_activity_lower_limit : Data → ℕ → ℕ → ℤ
total_technology_model_period_activity_lower_limit d r t = value_of d TOTAL_TECHNOLOGY_MODEL_PERIOD_ACTIVITY_LOWER_LIMIT (region_name d r ∷ technology_name d t ∷ [])

-- ReserveMarginTagTechnology[r,t,y]
abbrev pub reserve_margin_tag_technology : Data → ℕ → ℕ → ℕ → ℤ
reserve_margin_tag_technology d r t y = value_of d RESERVE_MARGIN_TAG_TECHNOLOGY (region_name d r ∷ technology_name d t ∷ year_name d y ∷ [])

-- ReserveMarginTagFuel[r,f,y]
abbrev pub reserve_margin_tag_fuel : Data → ℕ → ℕ → ℕ → ℤ
reserve_margin_tag_fuel d r f y = value_of d RESERVE_MARGIN_TAG_FUEL (region_name d r ∷ fuel_name d f ∷ year_name d y ∷ [])

-- ReserveMargin[r,y]
abbrev pub reserve_margin : Data → ℕ → ℕ → ℤ
reserve_margin d r y = value_of d RESERVE_MARGIN (region_name d r ∷ year_name d y ∷ [])

-- RETagTechnology[r,t,y]
abbrev pub re_tag_technology : Data → ℕ → ℕ → ℕ → ℤ
re_tag_technology d r t y = value_of d RE_TAG_TECHNOLOGY (region_name d r ∷ technology_name d t ∷ year_name d y ∷ [])

-- RETagFuel[r,f,y]
abbrev pub re_tag_fuel : Data → ℕ → ℕ → ℕ → ℤ
re_tag_fuel d r f y = value_of d RE_TAG_FUEL (region_name d r ∷ fuel_name d f ∷ year_name d y ∷ [])

-- REMinProductionTarget[r,y]
abbrev pub re_min_production_target : Data → ℕ → ℕ → ℤ
re_min_production_target d r y = value_of d RE_MIN_PRODUCTION_TARGET (region_name d r ∷ year_name d y ∷ [])

-- EmissionActivityRatio[r,t,e,m,y]
abbrev pub emission_activity_ratio : Data → ℕ → ℕ → ℕ → ℕ → ℕ → ℤ
emission_activity_ratio d r t e m y = value_of d EMISSION_ACTIVITY_RATIO (region_name d r ∷ technology_name d t ∷ emission_name d e ∷ mode_name d m ∷ year_name d y ∷ [])

-- EmissionsPenalty[r,e,y]
abbrev pub emissions_penalty : Data → ℕ → ℕ → ℕ → ℤ
emissions_penalty d r e y = value_of d EMISSIONS_PENALTY (region_name d r ∷ emission_name d e ∷ year_name d y ∷ [])

-- AnnualExogenousEmission[r,e,y]
abbrev pub annual_exogenous_emission : Data → ℕ → ℕ → ℕ → ℤ
annual_exogenous_emission d r e y = value_of d ANNUAL_EXOGENOUS_EMISSION (region_name d r ∷ emission_name d e ∷ year_name d y ∷ [])

-- AnnualEmissionLimit[r,e,y]
abbrev pub annual_emission_limit : Data → ℕ → ℕ → ℕ → ℤ
annual_emission_limit d r e y = value_of d ANNUAL_EMISSION_LIMIT (region_name d r ∷ emission_name d e ∷ year_name d y ∷ [])

-- ModelPeriodExogenousEmission[r,e]
abbrev pub model_period_exogenous_emission : Data → ℕ → ℕ → ℤ
model_period_exogenous_emission d r e = value_of d MODEL_PERIOD_EXOGENOUS_EMISSION (region_name d r ∷ emission_name d e ∷ [])

-- ModelPeriodEmissionLimit[r,e]
abbrev pub model_period_emission_limit : Data → ℕ → ℕ → ℤ
model_period_emission_limit d r e = value_of d MODEL_PERIOD_EMISSION_LIMIT (region_name d r ∷ emission_name d e ∷ [])

-- DiscountRateIdv[r,t], which is used under profile 2 alone
abbrev pub discount_rate_idv : Data → ℕ → ℕ → ℤ
discount_rate_idv d r t = value_of d DISCOUNT_RATE_IDV (region_name d r ∷ technology_name d t ∷ [])
