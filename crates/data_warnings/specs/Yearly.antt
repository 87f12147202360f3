-- Questions on a year, which are asked of whether it is ever so.
use Rattle.std.specs.Prelude.{ℕ, ◌<◌, ℤ, pos, Bool, ◌||◌, [], ◌∷◌, int_le}
use Rattle.std.specs.List.{list_any}
use Rattle.model_sets.specs.Data.{Data}
use Rattle.model_sets.specs.Names.{region, technology, fuel, emission, year}
use Rattle.model_sets.specs.declared.param_numbers.TheConstants.{ANNUAL_EMISSION_LIMIT, AVAILABILITY_FACTOR, CAPACITY_TO_ACTIVITY_UNIT, CAPITAL_COST, MODEL_PERIOD_EMISSION_LIMIT, TOTAL_ANNUAL_MAX_CAPACITY, TOTAL_ANNUAL_MAX_CAPACITY_INVESTMENT, TOTAL_TECHNOLOGY_ANNUAL_ACTIVITY_UPPER_LIMIT, TOTAL_TECHNOLOGY_MODEL_PERIOD_ACTIVITY_UPPER_LIMIT}
use Rattle.named_equations.specs.Where.{is_limit}
use Rattle.param_tables.specs.declared.ratios.ActivityRatio.TheVariants as ratio
use Rattle.data_warnings.specs.declared.questions.Question.TheVariants.{Factor, Route}
use Rattle.data_warnings.specs.declared.rules.Ceiling.{Ceiling}
use Rattle.data_warnings.specs.declared.rules.Ceiling.TheVariants.{Technology, Period, Emission}
use Rattle.data_warnings.specs.declared.rules.EmissionLimit.TheVariants as emission_limit
use Rattle.data_warnings.specs.declared.rules.Enabler.{Enabler}
use Rattle.data_warnings.specs.declared.rules.Enabler.TheVariants.{Unit, Availability, Factors}
use Rattle.data_warnings.specs.declared.rules.Limit.{Limit}
use Rattle.data_warnings.specs.declared.rules.Limit.TheVariants.{Capacity, Investment, Activity}
use Rattle.data_warnings.specs.declared.yearly.Yearly.{Yearly}
use Rattle.data_warnings.specs.declared.yearly.Yearly.TheVariants.{Made, Wanted, Emitted, Limited, Makes, MakesOrTakes, Costs, Runs, ZeroLimit, ZeroEmissions, Towers}
use Rattle.data_warnings.specs.Makers.{has_any_ratio, has_ratio, is_asked_for, is_handled}
use Rattle.data_warnings.specs.Questions.{is_so_somewhere}
use Rattle.data_warnings.specs.Values.{count, is_above_zero, is_by_default, is_nonzero, positions, value, whole}

-- the parameter of a limit
abbrev pub limit_param : Limit → ℕ
limit_param Capacity = TOTAL_ANNUAL_MAX_CAPACITY
limit_param Investment = TOTAL_ANNUAL_MAX_CAPACITY_INVESTMENT
limit_param Activity = TOTAL_TECHNOLOGY_ANNUAL_ACTIVITY_UPPER_LIMIT

-- the limit of a technology in a region and a year
abbrev pub limit_value : Data → Limit → ℕ → ℕ → ℕ → ℤ
limit_value d limit r t y = value d (limit_param limit) (r ∷ t ∷ y ∷ [])

-- the set of whose members a parameter of upper limits is, besides regions
abbrev pub ceiling_over : Ceiling → ℕ
ceiling_over (Technology limit) = technology
ceiling_over Period = technology
ceiling_over (Emission limit) = emission

-- the upper limit of a technology or of an emission; those of the model period are the same in each year
abbrev pub ceiling_value : Data → Ceiling → ℕ → ℕ → ℕ → ℤ
ceiling_value d (Technology limit) r t y = limit_value d limit r t y
ceiling_value d Period r t y = value d TOTAL_TECHNOLOGY_MODEL_PERIOD_ACTIVITY_UPPER_LIMIT (r ∷ t ∷ [])
ceiling_value d (Emission emission_limit.Annual) r e y = value d ANNUAL_EMISSION_LIMIT (r ∷ e ∷ y ∷ [])
ceiling_value d (Emission emission_limit.ModelPeriod) r e y = value d MODEL_PERIOD_EMISSION_LIMIT (r ∷ e ∷ [])

-- what a technology needs to run isn't 0
abbrev pub is_enabled : Data → Enabler → ℕ → ℕ → ℕ → Bool
is_enabled d Unit r t y = is_nonzero (value d CAPACITY_TO_ACTIVITY_UNIT (r ∷ t ∷ []))
is_enabled d Availability r t y = is_nonzero (value d AVAILABILITY_FACTOR (r ∷ t ∷ y ∷ []))
is_enabled d Factors r t y = is_so_somewhere d (Factor r t y)

-- the fuel is asked for, a technology takes it, or a route brings it
abbrev pub is_wanted : Data → ℕ → ℕ → ℕ → Bool
is_wanted d r f y = is_asked_for d r f y || is_handled d ratio.Input r f y || is_so_somewhere d (Route r f y)

-- its positions are those of members
abbrev pub IsAskedYearly : Data → Yearly → Type 0
IsAskedYearly d (Made r f) = (r < count d region) × (f < count d fuel)
IsAskedYearly d (Wanted r f) = (r < count d region) × (f < count d fuel)
IsAskedYearly d (Emitted r e) = (r < count d region) × (e < count d emission)
IsAskedYearly d (Limited r e) = (r < count d region) × (e < count d emission)
IsAskedYearly d (Makes r t f) = (r < count d region) × (t < count d technology) × (f < count d fuel)
IsAskedYearly d (MakesOrTakes r t f) = (r < count d region) × (t < count d technology) × (f < count d fuel)
IsAskedYearly d (Costs r t) = (r < count d region) × (t < count d technology)
IsAskedYearly d (Runs enabler r t) = (r < count d region) × (t < count d technology)
IsAskedYearly d (ZeroLimit limit r t) = (r < count d region) × (t < count d technology)
IsAskedYearly d (ZeroEmissions r e) = (r < count d region) × (e < count d emission)
IsAskedYearly d (Towers ceiling r i) = (r < count d region) × (i < count d (ceiling_over ceiling))

-- it is so in the year
abbrev pub is_so_in : Data → Yearly → ℕ → Bool
is_so_in d (Made r f) y = is_handled d ratio.Output r f y
is_so_in d (Wanted r f) y = is_wanted d r f y
is_so_in d (Emitted r e) y = is_handled d ratio.Emission r e y
is_so_in d (Limited r e) y = is_limit (value d ANNUAL_EMISSION_LIMIT (r ∷ e ∷ y ∷ []))
is_so_in d (Makes r t f) y = has_ratio d ratio.Output r t f y
is_so_in d (MakesOrTakes r t f) y = has_any_ratio d r t f y
is_so_in d (Costs r t) y = is_above_zero (value d CAPITAL_COST (r ∷ t ∷ y ∷ []))
is_so_in d (Runs enabler r t) y = is_enabled d enabler r t y
is_so_in d (ZeroLimit limit r t) y = is_by_default d (limit_param limit) (r ∷ t ∷ y ∷ []) (pos 0)
is_so_in d (ZeroEmissions r e) y = is_by_default d ANNUAL_EMISSION_LIMIT (r ∷ e ∷ y ∷ []) (pos 0)
is_so_in d (Towers ceiling r i) y = int_le (whole 99999) (ceiling_value d ceiling r i y)

-- it is so in some year
abbrev pub is_ever_so : Data → Yearly → Bool
is_ever_so d question = list_any (is_so_in d question) (positions d year)
