-- The parameters of which the findings of a rule speak.
use Rattle.std.specs.Prelude.{ℕ}
use Rattle.model_sets.specs.declared.param_numbers.TheConstants.{ANNUAL_EMISSION_LIMIT, AVAILABILITY_FACTOR, CAPACITY_FACTOR, CAPACITY_TO_ACTIVITY_UNIT, INPUT_ACTIVITY_RATIO, MODEL_PERIOD_EMISSION_LIMIT, OPERATIONAL_LIFE, OUTPUT_ACTIVITY_RATIO, RESERVE_MARGIN, SPECIFIED_DEMAND_PROFILE, CAPITAL_COST, DISCOUNT_RATE, DISCOUNT_RATE_IDV, FIXED_COST, RE_MIN_PRODUCTION_TARGET, TOTAL_TECHNOLOGY_ANNUAL_ACTIVITY_LOWER_LIMIT, TOTAL_TECHNOLOGY_MODEL_PERIOD_ACTIVITY_LOWER_LIMIT, TOTAL_TECHNOLOGY_MODEL_PERIOD_ACTIVITY_UPPER_LIMIT, TRADE_ROUTE, VARIABLE_COST, SPECIFIED_ANNUAL_DEMAND, ACCUMULATED_ANNUAL_DEMAND, RESIDUAL_CAPACITY, YEAR_SPLIT}
use Rattle.data_warnings.specs.declared.rules.Ceiling.{Ceiling}
use Rattle.data_warnings.specs.declared.rules.Ceiling.TheVariants as ceiling
use Rattle.data_warnings.specs.declared.rules.Cost.{Cost}
use Rattle.data_warnings.specs.declared.rules.Cost.TheVariants as cost
use Rattle.data_warnings.specs.declared.rules.EmissionLimit.{EmissionLimit}
use Rattle.data_warnings.specs.declared.rules.EmissionLimit.TheVariants as emission_limit
use Rattle.data_warnings.specs.declared.rules.Enabler.{Enabler}
use Rattle.data_warnings.specs.declared.rules.Enabler.TheVariants as enabler
use Rattle.data_warnings.specs.declared.rules.Rule.{Rule}
use Rattle.data_warnings.specs.declared.rules.Rule.TheVariants.{YearSplitSum, YearGap, DiscountRate, UnprofiledDemand, ProfileSum, UnmadeDemand, StarvedTechnology, Disabled, Crossed, CrossedPeriod, Unreachable, ShortLives, CoarseRates, LargeFactor, LargeAvailability, LargeTarget, SmallMargin, NegativeCost, Outlier, OneWayRoute, EqualRoute, UnequalRoute, ZeroLimits, ZeroEmissions, HighLimits, IdleLimit, UnusedFuel, IdleTechnology, Rounded}
use Rattle.data_warnings.specs.declared.rules.Series.{Series}
use Rattle.data_warnings.specs.declared.rules.Series.TheVariants as series
use Rattle.data_warnings.specs.Limits.{least_of}
use Rattle.data_warnings.specs.Yearly.{limit_param}

-- the parameter of a cost
abbrev pub cost_param : Cost → ℕ
cost_param cost.Capital = CAPITAL_COST
cost_param cost.Fixed = FIXED_COST
cost_param cost.Variable = VARIABLE_COST

-- the parameter of a series
abbrev pub series_param : Series → ℕ
series_param series.CapitalCost = CAPITAL_COST
series_param series.FixedCost = FIXED_COST
series_param series.VariableCost = VARIABLE_COST
series_param series.SpecifiedAnnualDemand = SPECIFIED_ANNUAL_DEMAND
series_param series.AccumulatedAnnualDemand = ACCUMULATED_ANNUAL_DEMAND
series_param series.ResidualCapacity = RESIDUAL_CAPACITY

-- the parameter that a technology needs
abbrev pub enabler_param : Enabler → ℕ
enabler_param enabler.Unit = CAPACITY_TO_ACTIVITY_UNIT
enabler_param enabler.Availability = AVAILABILITY_FACTOR
enabler_param enabler.Factors = CAPACITY_FACTOR

-- the parameter of a limit of an emission
abbrev pub emission_limit_param : EmissionLimit → ℕ
emission_limit_param emission_limit.Annual = ANNUAL_EMISSION_LIMIT
emission_limit_param emission_limit.ModelPeriod = MODEL_PERIOD_EMISSION_LIMIT

-- the parameter of upper limits
abbrev pub ceiling_param : Ceiling → ℕ
ceiling_param (ceiling.Technology limit) = limit_param limit
ceiling_param ceiling.Period = TOTAL_TECHNOLOGY_MODEL_PERIOD_ACTIVITY_UPPER_LIMIT
ceiling_param (ceiling.Emission limit) = emission_limit_param limit

-- the parameter whose number is odd; where the lines of a rule name none, it is one of which the rule speaks
abbrev pub param_of : Rule → ℕ
param_of YearSplitSum = YEAR_SPLIT
param_of YearGap = YEAR_SPLIT
param_of DiscountRate = DISCOUNT_RATE
param_of UnprofiledDemand = SPECIFIED_ANNUAL_DEMAND
param_of ProfileSum = SPECIFIED_DEMAND_PROFILE
param_of UnmadeDemand = SPECIFIED_ANNUAL_DEMAND
param_of StarvedTechnology = INPUT_ACTIVITY_RATIO
param_of (Disabled enabler) = enabler_param enabler
param_of (Crossed pair) = least_of pair
param_of CrossedPeriod = TOTAL_TECHNOLOGY_MODEL_PERIOD_ACTIVITY_LOWER_LIMIT
param_of Unreachable = TOTAL_TECHNOLOGY_ANNUAL_ACTIVITY_LOWER_LIMIT
param_of ShortLives = OPERATIONAL_LIFE
param_of CoarseRates = DISCOUNT_RATE_IDV
param_of LargeFactor = CAPACITY_FACTOR
param_of LargeAvailability = AVAILABILITY_FACTOR
param_of LargeTarget = RE_MIN_PRODUCTION_TARGET
param_of SmallMargin = RESERVE_MARGIN
param_of (NegativeCost cost) = cost_param cost
param_of (Outlier series) = series_param series
param_of OneWayRoute = TRADE_ROUTE
param_of EqualRoute = TRADE_ROUTE
param_of UnequalRoute = TRADE_ROUTE
param_of (ZeroLimits limit) = limit_param limit
param_of (ZeroEmissions limit) = emission_limit_param limit
param_of (HighLimits high) = ceiling_param high
param_of IdleLimit = ANNUAL_EMISSION_LIMIT
param_of UnusedFuel = OUTPUT_ACTIVITY_RATIO
param_of IdleTechnology = OUTPUT_ACTIVITY_RATIO
param_of Rounded = YEAR_SPLIT
