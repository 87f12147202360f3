-- The definitions computed on a small model: one region, two technologies, two fuels, two timeslices, and three years of which the third leaves a gap.
use Rattle.data_warnings.proofs.Common.{◌≡◌, ℕ, ◌++◌, ◌∷◌, [], List, false, refl, pos, negsuc, set, true, digits, Default, Given, SetLists, Built, Finding, Rule, decimal_text, part_digits, found, place_at, above_line, asked_start, asked_text, bare_number, beside_text, both_ways_line, both_ways_text, crossed_line, default_line, default_text, first_names, for_first, last_line, line, lines_text, members_line, members_text, more_members, more_years, names_text, number_text, of_names, plain_line, subject_text, unmade_line, unmade_text, years_text, whole}
use Rattle.std.specs.Prelude.{codes, ℤ}
use Rattle.discount_factors.specs.Factors.{annuity, discounted, recovery_factor}
use Rattle.model_sets.specs.declared.param_numbers.TheConstants as param
use Rattle.data_warnings.specs.declared.rules.Ceiling.TheVariants as ceiling
use Rattle.data_warnings.specs.declared.rules.Cost.TheVariants as cost
use Rattle.data_warnings.specs.declared.rules.EmissionLimit.TheVariants as emission_limit
use Rattle.data_warnings.specs.declared.rules.Enabler.TheVariants as enabler
use Rattle.data_warnings.specs.declared.rules.Limit.TheVariants as limit
use Rattle.data_warnings.specs.declared.rules.Pair.TheVariants as pair
use Rattle.data_warnings.specs.declared.rules.Rule.TheVariants as rule
use Rattle.data_warnings.specs.declared.rules.Series.TheVariants as series

unfoldable pub small_sets : SetLists
small_sets =
    (codes "R" ∷ [])
    ∷ (codes "T" ∷ codes "U" ∷ [])
    ∷ (codes "F" ∷ codes "G" ∷ [])
    ∷ (codes "E" ∷ [])
    ∷ (codes "1" ∷ [])
    ∷ (codes "D" ∷ codes "N" ∷ [])
    ∷ (codes "2020" ∷ codes "2021" ∷ codes "2023" ∷ [])
    ∷ []
    ∷ []
    ∷ []
    ∷ []
    ∷ []

-- a value of a parameter at an index
at : ℕ → List (List ℕ) → ℤ → Given
at number index value = record { param = number; index = index; value = value }

-- a default of a parameter
by_default : ℕ → ℤ → Default
by_default number value = record { param = number; value = value }

-- the data of these values; what isn't given counts as 0
small : List Given → List Default → Built
small given defaults = record { facts = record { sets = small_sets; given = given; defaults = defaults; second = false }; rounded = 0 }

-- a finding
unfoldable pub told : Rule → ℕ → ℕ → ℕ → ℕ → ℕ → ℤ → ℤ → Finding
told which i j k l more first second = record { rule = which; place = place_at i j k l; more = more; number = first; other = second }

rt : List ℕ → List ℕ → List (List ℕ)
rt t y = codes "R" ∷ t ∷ y ∷ []

-- ---- limits

-- a residual capacity above the limit, in one year
crossed : found (small (at param.RESIDUAL_CAPACITY (rt (codes "T") (codes "2021")) (whole 2) ∷ []) (by_default param.TOTAL_ANNUAL_MAX_CAPACITY (pos 1999999999) ∷ [])) (rule.Crossed pair.Residual)
    ≡ told (rule.Crossed pair.Residual) 0 0 0 1 0 (whole 2) (pos 1999999999) ∷ []
unfolding small small_sets at by_default told rt
crossed = refl

-- one at the limit isn't above it
at_the_limit : found (small (at param.RESIDUAL_CAPACITY (rt (codes "T") (codes "2021")) (whole 2) ∷ []) (by_default param.TOTAL_ANNUAL_MAX_CAPACITY (whole 2) ∷ [])) (rule.Crossed pair.Residual) ≡ []
unfolding small small_sets at by_default told rt
at_the_limit = refl

-- -1 is no limit
no_limit_set : found (small (at param.RESIDUAL_CAPACITY (rt (codes "T") (codes "2021")) (whole 2) ∷ []) (by_default param.TOTAL_ANNUAL_MAX_CAPACITY (negsuc 999999999) ∷ [])) (rule.Crossed pair.Residual) ≡ []
unfolding small small_sets at by_default told rt
no_limit_set = refl

-- the same in two years of each technology: two findings
twice : found (small (at param.TOTAL_ANNUAL_MIN_CAPACITY (rt (codes "T") (codes "2020")) (pos 0) ∷ []) (by_default param.TOTAL_ANNUAL_MIN_CAPACITY (whole 3) ∷ by_default param.TOTAL_ANNUAL_MAX_CAPACITY (whole 2) ∷ [])) (rule.Crossed pair.Capacity)
    ≡ told (rule.Crossed pair.Capacity) 0 0 0 1 1 (whole 3) (whole 2) ∷ told (rule.Crossed pair.Capacity) 0 1 0 0 2 (whole 3) (whole 2) ∷ []
unfolding small small_sets at by_default told rt
twice = refl

-- 0 is no limit of the model period, but of a year it is
period_of_none : found (small [] (by_default param.TOTAL_TECHNOLOGY_MODEL_PERIOD_ACTIVITY_LOWER_LIMIT (whole 3) ∷ [])) rule.CrossedPeriod ≡ []
unfolding small small_sets at by_default told rt
period_of_none = refl

-- a capacity of 2 that runs half of the year at 0.5, of 3 a unit, does 1.5, and no billionth more
runs : ℤ → Built
runs least =
    small (at param.TOTAL_TECHNOLOGY_ANNUAL_ACTIVITY_LOWER_LIMIT (rt (codes "T") (codes "2021")) least ∷ at param.CAPACITY_FACTOR (codes "R" ∷ codes "T" ∷ codes "D" ∷ codes "2021" ∷ []) (pos 500000000) ∷ [])
    (by_default param.TOTAL_ANNUAL_MAX_CAPACITY (whole 2) ∷ by_default param.CAPACITY_TO_ACTIVITY_UNIT (whole 3) ∷ by_default param.AVAILABILITY_FACTOR (whole 1) ∷ by_default param.YEAR_SPLIT (pos 500000000) ∷ [])

reached : found (runs (pos 1500000000)) rule.Unreachable ≡ []
unfolding runs small small_sets at by_default told rt
reached = refl

not_reached : found (runs (pos 1500000001)) rule.Unreachable ≡ told rule.Unreachable 0 0 0 1 0 (pos 1500000001) (whole 2) ∷ []
unfolding runs small small_sets at by_default told rt
not_reached = refl

-- a cost below 0, held by a limit and not
loose : found (small (at param.FIXED_COST (rt (codes "U") (codes "2023")) (negsuc 0) ∷ []) (by_default param.TOTAL_ANNUAL_MAX_CAPACITY (negsuc 999999999) ∷ by_default param.TOTAL_ANNUAL_MAX_CAPACITY_INVESTMENT (negsuc 999999999) ∷ by_default param.TOTAL_TECHNOLOGY_ANNUAL_ACTIVITY_UPPER_LIMIT (negsuc 999999999) ∷ [])) (rule.NegativeCost cost.Fixed)
    ≡ told (rule.NegativeCost cost.Fixed) 0 1 0 2 0 (negsuc 0) (pos 0) ∷ []
unfolding small small_sets at by_default told rt
loose = refl

held : found (small (at param.FIXED_COST (rt (codes "U") (codes "2023")) (negsuc 0) ∷ []) (by_default param.TOTAL_ANNUAL_MAX_CAPACITY (negsuc 999999999) ∷ by_default param.TOTAL_ANNUAL_MAX_CAPACITY_INVESTMENT (pos 0) ∷ by_default param.TOTAL_TECHNOLOGY_ANNUAL_ACTIVITY_UPPER_LIMIT (negsuc 999999999) ∷ [])) (rule.NegativeCost cost.Fixed) ≡ []
unfolding small small_sets at by_default told rt
held = refl

-- no limit of a year holds anything
unlimited_years : List Default
unlimited_years = by_default param.TOTAL_ANNUAL_MAX_CAPACITY (negsuc 999999999) ∷ by_default param.TOTAL_ANNUAL_MAX_CAPACITY_INVESTMENT (negsuc 999999999) ∷ by_default param.TOTAL_TECHNOLOGY_ANNUAL_ACTIVITY_UPPER_LIMIT (negsuc 999999999) ∷ []

-- a cost of another kind is looked at where it stands, that of a mode at the mode
loose_capital : found (small (at param.CAPITAL_COST (rt (codes "T") (codes "2021")) (negsuc 0) ∷ []) unlimited_years) (rule.NegativeCost cost.Capital) ≡ told (rule.NegativeCost cost.Capital) 0 0 0 1 0 (negsuc 0) (pos 0) ∷ []
unfolding unlimited_years small small_sets at by_default told rt
loose_capital = refl

loose_variable : found (small (at param.VARIABLE_COST (codes "R" ∷ codes "U" ∷ codes "1" ∷ codes "2020" ∷ []) (negsuc 0) ∷ []) unlimited_years) (rule.NegativeCost cost.Variable) ≡ told (rule.NegativeCost cost.Variable) 0 1 0 0 0 (negsuc 0) (pos 0) ∷ []
unfolding unlimited_years small small_sets at by_default told
loose_variable = refl

of_another_cost : found (small (at param.CAPITAL_COST (rt (codes "T") (codes "2021")) (negsuc 0) ∷ []) unlimited_years) (rule.NegativeCost cost.Fixed) ≡ []
unfolding unlimited_years small small_sets at by_default told rt
of_another_cost = refl

-- a limit on the activity of the year holds it too, and one on the activity of the model period that is above 0
held_by : List Default → Built
held_by limits =
    small (at param.FIXED_COST (rt (codes "U") (codes "2023")) (negsuc 0) ∷ [])
    (limits ++ by_default param.TOTAL_ANNUAL_MAX_CAPACITY (negsuc 999999999) ∷ by_default param.TOTAL_ANNUAL_MAX_CAPACITY_INVESTMENT (negsuc 999999999) ∷ by_default param.TOTAL_TECHNOLOGY_ANNUAL_ACTIVITY_UPPER_LIMIT (negsuc 999999999) ∷ [])

held_by_capacity : found (held_by (by_default param.TOTAL_ANNUAL_MAX_CAPACITY (pos 0) ∷ [])) (rule.NegativeCost cost.Fixed) ≡ []
unfolding held_by small small_sets at by_default told rt
held_by_capacity = refl

held_by_activity : found (held_by (by_default param.TOTAL_TECHNOLOGY_ANNUAL_ACTIVITY_UPPER_LIMIT (pos 0) ∷ [])) (rule.NegativeCost cost.Fixed) ≡ []
unfolding held_by small small_sets at by_default told rt
held_by_activity = refl

held_by_the_period : found (held_by (by_default param.TOTAL_TECHNOLOGY_MODEL_PERIOD_ACTIVITY_UPPER_LIMIT (pos 1) ∷ [])) (rule.NegativeCost cost.Fixed) ≡ []
unfolding held_by small small_sets at by_default told rt
held_by_the_period = refl

period_without_limit : found (held_by (by_default param.TOTAL_TECHNOLOGY_MODEL_PERIOD_ACTIVITY_UPPER_LIMIT (pos 0) ∷ [])) (rule.NegativeCost cost.Fixed) ≡ told (rule.NegativeCost cost.Fixed) 0 1 0 2 0 (negsuc 0) (pos 0) ∷ []
unfolding held_by small small_sets at by_default told rt
period_without_limit = refl

-- ---- fuels

-- a fuel that is asked for in a year, and made in another one alone
makes : List ℕ → Given
makes y = at param.OUTPUT_ACTIVITY_RATIO (codes "R" ∷ codes "U" ∷ codes "G" ∷ codes "1" ∷ y ∷ []) (whole 1)

asks : List ℕ → Given
asks y = at param.ACCUMULATED_ANNUAL_DEMAND (codes "R" ∷ codes "G" ∷ y ∷ []) (pos 1)

unmade : found (small (makes (codes "2020") ∷ asks (codes "2020") ∷ asks (codes "2021") ∷ []) []) rule.UnmadeDemand ≡ told rule.UnmadeDemand 0 1 0 1 0 (pos 0) (pos 0) ∷ []
unfolding small small_sets at by_default told rt makes asks
unmade = refl

made : found (small (makes (codes "2021") ∷ asks (codes "2021") ∷ []) []) rule.UnmadeDemand ≡ []
unfolding small small_sets at by_default told rt makes asks
made = refl

-- a demand without a profile isn't asked for
unprofiled : found (small (at param.SPECIFIED_ANNUAL_DEMAND (rt (codes "F") (codes "2020")) (whole 5) ∷ []) []) rule.UnmadeDemand ≡ []
unfolding small small_sets at by_default told rt
unprofiled = refl

unprofiled_told : found (small (at param.SPECIFIED_ANNUAL_DEMAND (rt (codes "F") (codes "2020")) (whole 5) ∷ []) []) rule.UnprofiledDemand ≡ told rule.UnprofiledDemand 0 0 0 0 0 (whole 5) (pos 0) ∷ []
unfolding small small_sets at by_default told rt
unprofiled_told = refl

-- what is made is unused until it is asked for
unused : found (small (makes (codes "2020") ∷ []) []) rule.UnusedFuel ≡ told rule.UnusedFuel 0 1 0 0 0 (pos 0) (pos 0) ∷ []
unfolding small small_sets at by_default told rt makes asks
unused = refl

used : found (small (makes (codes "2020") ∷ asks (codes "2023") ∷ []) []) rule.UnusedFuel ≡ []
unfolding small small_sets at by_default told rt makes asks
used = refl

-- T makes and takes nothing, U something
idle : found (small (makes (codes "2020") ∷ []) []) rule.IdleTechnology ≡ told rule.IdleTechnology 0 0 0 0 0 (pos 0) (pos 0) ∷ []
unfolding small small_sets at by_default told rt makes asks
idle = refl

-- U can't run where its capacity factors are all 0; T makes nothing
disabled : found (small (makes (codes "2020") ∷ []) []) (rule.Disabled enabler.Factors) ≡ told (rule.Disabled enabler.Factors) 0 1 0 0 0 (pos 0) (pos 0) ∷ []
unfolding small small_sets at by_default told rt makes asks
disabled = refl

enabled : found (small (makes (codes "2020") ∷ at param.CAPACITY_FACTOR (codes "R" ∷ codes "U" ∷ codes "N" ∷ codes "2023" ∷ []) (pos 1) ∷ []) []) (rule.Disabled enabler.Factors) ≡ []
unfolding small small_sets at by_default told rt makes asks
enabled = refl

-- nor where its availability is 0 in every year, or its unit of activity
unavailable : found (small (makes (codes "2020") ∷ at param.AVAILABILITY_FACTOR (rt (codes "T") (codes "2023")) (pos 1) ∷ []) []) (rule.Disabled enabler.Availability) ≡ told (rule.Disabled enabler.Availability) 0 1 0 0 0 (pos 0) (pos 0) ∷ []
unfolding small small_sets at by_default told rt makes asks
unavailable = refl

available : found (small (makes (codes "2020") ∷ at param.AVAILABILITY_FACTOR (rt (codes "U") (codes "2023")) (pos 1) ∷ []) []) (rule.Disabled enabler.Availability) ≡ []
unfolding small small_sets at by_default told rt makes asks
available = refl

without_unit : found (small (makes (codes "2020") ∷ at param.CAPACITY_TO_ACTIVITY_UNIT (codes "R" ∷ codes "T" ∷ []) (pos 1) ∷ []) []) (rule.Disabled enabler.Unit) ≡ told (rule.Disabled enabler.Unit) 0 1 0 0 0 (pos 0) (pos 0) ∷ []
unfolding small small_sets at by_default told rt makes asks
without_unit = refl

with_unit : found (small (makes (codes "2020") ∷ at param.CAPACITY_TO_ACTIVITY_UNIT (codes "R" ∷ codes "U" ∷ []) (pos 1) ∷ []) []) (rule.Disabled enabler.Unit) ≡ []
unfolding small small_sets at by_default told rt makes asks
with_unit = refl

-- ---- years and sums

-- 2022 is missing
gap : found (small [] []) rule.YearGap ≡ told rule.YearGap 0 0 0 1 0 (whole 2022) (pos 0) ∷ []
unfolding small small_sets at by_default told rt
gap = refl

-- two millionths off are within the slack of two timeslices, and a billionth more isn't
split : ℤ → Built
split night = small (at param.YEAR_SPLIT (codes "N" ∷ codes "2021" ∷ []) night ∷ []) (by_default param.YEAR_SPLIT (pos 500000000) ∷ [])

nearly_one : found (split (pos 499998000)) rule.YearSplitSum ≡ []
unfolding split small small_sets at by_default told rt
nearly_one = refl

not_one : found (split (pos 499997999)) rule.YearSplitSum ≡ told rule.YearSplitSum 0 0 0 1 0 (pos 999997999) (pos 0) ∷ []
unfolding split small small_sets at by_default told rt
not_one = refl

-- eight times the others, and a billionth less
costs : ℤ → Built
costs middle = small (at param.CAPITAL_COST (rt (codes "T") (codes "2021")) middle ∷ []) (by_default param.CAPITAL_COST (whole 1) ∷ [])

outlier : found (costs (whole 8)) (rule.Outlier series.CapitalCost) ≡ told (rule.Outlier series.CapitalCost) 0 0 0 1 0 (whole 8) (whole 1) ∷ []
unfolding costs small small_sets at by_default told rt
outlier = refl

no_outlier : found (costs (pos 7999999999)) (rule.Outlier series.CapitalCost) ≡ []
unfolding costs small small_sets at by_default told rt
no_outlier = refl

-- an eighth of the others is far too, and a billionth more isn't
eighth : found (costs (pos 125000000)) (rule.Outlier series.CapitalCost) ≡ told (rule.Outlier series.CapitalCost) 0 0 0 1 0 (pos 125000000) (whole 1) ∷ []
unfolding costs small small_sets at by_default told rt
eighth = refl

no_eighth : found (costs (pos 125000001)) (rule.Outlier series.CapitalCost) ≡ []
unfolding costs small small_sets at by_default told rt
no_eighth = refl

-- The first year is beside the second and the third, of which the second is the nearest; the last year is beside the two before it.
three_costs : ℤ → ℤ → ℤ → Built
three_costs first second last =
    small (at param.CAPITAL_COST (rt (codes "T") (codes "2020")) first ∷ at param.CAPITAL_COST (rt (codes "T") (codes "2021")) second ∷ at param.CAPITAL_COST (rt (codes "T") (codes "2023")) last ∷ []) []

first_year : found (three_costs (whole 8) (whole 1) (pos 500000000)) (rule.Outlier series.CapitalCost) ≡ told (rule.Outlier series.CapitalCost) 0 0 0 0 0 (whole 8) (whole 1) ∷ []
unfolding three_costs small small_sets at by_default told rt
first_year = refl

near_the_third : found (three_costs (whole 8) (whole 1) (whole 2)) (rule.Outlier series.CapitalCost) ≡ []
unfolding three_costs small small_sets at by_default told rt
near_the_third = refl

last_year : found (three_costs (pos 500000000) (whole 1) (whole 8)) (rule.Outlier series.CapitalCost) ≡ told (rule.Outlier series.CapitalCost) 0 0 0 2 0 (whole 8) (whole 1) ∷ []
unfolding three_costs small small_sets at by_default told rt
last_year = refl

near_the_first : found (three_costs (whole 2) (whole 1) (whole 8)) (rule.Outlier series.CapitalCost) ≡ []
unfolding three_costs small small_sets at by_default told rt
near_the_first = refl

-- beside a 0 nothing is far, and a 0 is far from nothing
zero_itself : found (three_costs (pos 0) (whole 1) (whole 1)) (rule.Outlier series.CapitalCost) ≡ []
unfolding three_costs small small_sets at by_default told rt
zero_itself = refl

zero_nearest : found (three_costs (whole 8) (pos 0) (whole 1)) (rule.Outlier series.CapitalCost) ≡ []
unfolding three_costs small small_sets at by_default told rt
zero_nearest = refl

zero_beside : found (three_costs (whole 8) (whole 1) (pos 0)) (rule.Outlier series.CapitalCost) ≡ []
unfolding three_costs small small_sets at by_default told rt
zero_beside = refl

-- two years tell nothing
in_two_years : Built
in_two_years = record { facts = record { sets = set small_sets 6 (codes "2020" ∷ codes "2021" ∷ []); given = (costs (whole 8)).facts.given; defaults = (costs (whole 8)).facts.defaults; second = false }; rounded = 0 }

of_two_years : found in_two_years (rule.Outlier series.CapitalCost) ≡ []
unfolding in_two_years costs small small_sets at by_default told rt
of_two_years = refl

-- each series has a parameter of its own: eight times the default in one year
far_at : ℕ → List (List ℕ) → Built
far_at number index = small (at number index (whole 8) ∷ []) (by_default number (whole 1) ∷ [])

fixed_cost : found (far_at param.FIXED_COST (rt (codes "T") (codes "2021"))) (rule.Outlier series.FixedCost) ≡ told (rule.Outlier series.FixedCost) 0 0 0 1 0 (whole 8) (whole 1) ∷ []
unfolding far_at small small_sets at by_default told rt
fixed_cost = refl

variable_cost : found (far_at param.VARIABLE_COST (codes "R" ∷ codes "U" ∷ codes "1" ∷ codes "2021" ∷ [])) (rule.Outlier series.VariableCost) ≡ told (rule.Outlier series.VariableCost) 0 1 0 1 0 (whole 8) (whole 1) ∷ []
unfolding far_at small small_sets at by_default told
variable_cost = refl

demand_with_profile : found (far_at param.SPECIFIED_ANNUAL_DEMAND (rt (codes "F") (codes "2021"))) (rule.Outlier series.SpecifiedAnnualDemand) ≡ told (rule.Outlier series.SpecifiedAnnualDemand) 0 0 0 1 0 (whole 8) (whole 1) ∷ []
unfolding far_at small small_sets at by_default told rt
demand_with_profile = refl

demand_of_year : found (far_at param.ACCUMULATED_ANNUAL_DEMAND (rt (codes "G") (codes "2021"))) (rule.Outlier series.AccumulatedAnnualDemand) ≡ told (rule.Outlier series.AccumulatedAnnualDemand) 0 1 0 1 0 (whole 8) (whole 1) ∷ []
unfolding far_at small small_sets at by_default told rt
demand_of_year = refl

residual_capacity : found (far_at param.RESIDUAL_CAPACITY (rt (codes "U") (codes "2021"))) (rule.Outlier series.ResidualCapacity) ≡ told (rule.Outlier series.ResidualCapacity) 0 1 0 1 0 (whole 8) (whole 1) ∷ []
unfolding far_at small small_sets at by_default told rt
residual_capacity = refl

of_another_series : found (far_at param.FIXED_COST (rt (codes "T") (codes "2021"))) (rule.Outlier series.CapitalCost) ≡ []
unfolding far_at small small_sets at by_default told rt
of_another_series = refl

-- ---- rates

odd_rate : found (small [] (by_default param.DISCOUNT_RATE (pos 500000000) ∷ [])) rule.DiscountRate ≡ told rule.DiscountRate 0 0 0 0 0 (pos 500000000) (pos 0) ∷ []
unfolding small small_sets at by_default told rt
odd_rate = refl

no_odd_rate : found (small [] (by_default param.DISCOUNT_RATE (pos 50000000) ∷ [])) rule.DiscountRate ≡ []
unfolding small small_sets at by_default told rt
no_odd_rate = refl

-- ---- routes

-- two regions, which send F to each other in 2021
unfoldable pub two_regions : SetLists
two_regions = set small_sets 0 (codes "R" ∷ codes "S" ∷ [])

routes : ℤ → ℤ → Built
routes there back =
    record { facts = record { sets = two_regions; given = at param.TRADE_ROUTE (codes "R" ∷ codes "S" ∷ codes "F" ∷ codes "2021" ∷ []) there ∷ at param.TRADE_ROUTE (codes "S" ∷ codes "R" ∷ codes "F" ∷ codes "2021" ∷ []) back ∷ []; defaults = []; second = false }; rounded = 0 }

-- nine tenths both ways: the pair is told once
equal_route : found (routes (pos 900000000) (pos 900000000)) rule.EqualRoute ≡ told rule.EqualRoute 0 1 0 1 0 (pos 900000000) (pos 0) ∷ []
unfolding routes two_regions small_sets at told
equal_route = refl

-- all of it, or a billionth apart
whole_route : found (routes (whole 1) (whole 1)) rule.EqualRoute ≡ []
unfolding routes two_regions small_sets at told
whole_route = refl

not_equal : found (routes (pos 900000000) (pos 900000001)) rule.EqualRoute ≡ []
unfolding routes two_regions small_sets at told
not_equal = refl

unequal_route : found (routes (pos 900000000) (pos 900000001)) rule.UnequalRoute ≡ told rule.UnequalRoute 0 1 0 1 0 (pos 900000000) (pos 900000001) ∷ []
unfolding routes two_regions small_sets at told
unequal_route = refl

not_unequal : found (routes (pos 900000000) (pos 900000000)) rule.UnequalRoute ≡ []
unfolding routes two_regions small_sets at told
not_unequal = refl

-- a route without a way back is told as that alone
no_way_back : found (routes (pos 900000000) (pos 0)) rule.UnequalRoute ++ found (routes (pos 0) (pos 900000000)) rule.UnequalRoute ≡ []
unfolding routes two_regions small_sets at told
no_way_back = refl

-- ---- investments that are spread over lives

-- T costs something in a year, under profile 2, at these rates and with this life
spread : ℤ → ℤ → Built
spread rate life =
    record { facts = record { sets = small_sets; given = at param.CAPITAL_COST (rt (codes "T") (codes "2021")) (whole 5) ∷ []; defaults = by_default param.OPERATIONAL_LIFE life ∷ by_default param.DISCOUNT_RATE rate ∷ by_default param.DISCOUNT_RATE_IDV rate ∷ []; second = true }; rounded = 0 }

-- at rate 0 a sixth is 0.166666, so that six of them are four millionths short; three thirds are one short, and no more
coarse_sixths : found (spread (pos 0) (whole 6)) rule.CoarseRates ≡ told rule.CoarseRates 0 0 0 0 0 (pos 0) (pos 0) ∷ []
unfolding spread small_sets at by_default told rt recovery_factor annuity
coarse_sixths = refl

thirds : found (spread (pos 0) (whole 3)) rule.CoarseRates ≡ []
unfolding spread small_sets at by_default told rt recovery_factor annuity
thirds = refl

-- twenty years at 5 per cent are seven short
coarse_rate : found (spread (pos 50000000) (whole 20)) rule.CoarseRates ≡ told rule.CoarseRates 0 0 0 0 0 (pos 0) (pos 0) ∷ []
unfolding spread small_sets at by_default told rt recovery_factor annuity discounted
coarse_rate = refl

-- under profile 1 nothing is spread
not_spread : found (small (at param.CAPITAL_COST (rt (codes "T") (codes "2021")) (whole 5) ∷ []) (by_default param.OPERATIONAL_LIFE (whole 6) ∷ [])) rule.CoarseRates ≡ []
unfolding small small_sets at by_default told rt
not_spread = refl

-- ---- what is so by default

-- T costs something in a year and lives one by default, and so does U
lives : List Given → ℤ → Built
lives given default = small (at param.CAPITAL_COST (rt (codes "T") (codes "2021")) (whole 5) ∷ given) (by_default param.OPERATIONAL_LIFE default ∷ [])

short_life : found (lives [] (whole 1)) rule.ShortLives ≡ told rule.ShortLives 0 0 0 0 0 (whole 1) (pos 0) ∷ []
unfolding lives small small_sets at by_default told rt
short_life = refl

two_short_lives : found (lives (at param.CAPITAL_COST (rt (codes "U") (codes "2023")) (pos 1) ∷ []) (whole 1)) rule.ShortLives ≡ told rule.ShortLives 0 0 0 0 1 (whole 1) (pos 0) ∷ []
unfolding lives small small_sets at by_default told rt
two_short_lives = refl

-- a life of a year that the file gives is meant, and a default of two years isn't one
life_given : found (lives (at param.OPERATIONAL_LIFE (codes "R" ∷ codes "T" ∷ []) (whole 1) ∷ []) (whole 1)) rule.ShortLives ≡ []
unfolding lives small small_sets at by_default told rt
life_given = refl

two_years : found (lives [] (whole 2)) rule.ShortLives ≡ []
unfolding lives small small_sets at by_default told rt
two_years = refl

-- in data of one year a life of one is long enough
in_one_year : Built
in_one_year = record { facts = record { sets = set small_sets 6 (codes "2021" ∷ []); given = (lives [] (whole 1)).facts.given; defaults = (lives [] (whole 1)).facts.defaults; second = false }; rounded = 0 }

long_enough : found in_one_year rule.ShortLives ≡ []
unfolding in_one_year lives small small_sets at by_default told rt
long_enough = refl

-- the greatest capacity of T in each year, and a default
greatest : ℤ → ℤ → ℤ → ℤ → Built
greatest first second third default =
    small
    (at param.TOTAL_ANNUAL_MAX_CAPACITY (rt (codes "T") (codes "2020")) first ∷ at param.TOTAL_ANNUAL_MAX_CAPACITY (rt (codes "T") (codes "2021")) second ∷ at param.TOTAL_ANNUAL_MAX_CAPACITY (rt (codes "T") (codes "2023")) third ∷ [])
    (by_default param.TOTAL_ANNUAL_MAX_CAPACITY default ∷ [])

forbidden : found (small [] (by_default param.TOTAL_ANNUAL_MAX_CAPACITY (pos 0) ∷ [])) (rule.ZeroLimits limit.Capacity) ≡ told (rule.ZeroLimits limit.Capacity) 0 0 0 0 1 (pos 0) (pos 0) ∷ []
unfolding small small_sets at by_default told rt
forbidden = refl

-- a 0 that the file gives is meant, so that U is left
one_forbidden : found (greatest (pos 0) (pos 0) (pos 0) (pos 0)) (rule.ZeroLimits limit.Capacity) ≡ told (rule.ZeroLimits limit.Capacity) 0 0 0 1 0 (pos 0) (pos 0) ∷ []
unfolding greatest small small_sets at by_default told rt
one_forbidden = refl

-- one year without a value is enough
forbidden_once : found (small (at param.TOTAL_ANNUAL_MAX_CAPACITY (rt (codes "T") (codes "2020")) (whole 5) ∷ at param.TOTAL_ANNUAL_MAX_CAPACITY (rt (codes "T") (codes "2023")) (whole 5) ∷ []) (by_default param.TOTAL_ANNUAL_MAX_CAPACITY (pos 0) ∷ [])) (rule.ZeroLimits limit.Capacity)
    ≡ told (rule.ZeroLimits limit.Capacity) 0 0 0 0 1 (pos 0) (pos 0) ∷ []
unfolding small small_sets at by_default told rt
forbidden_once = refl

-- the defaults that are no limit, and one above 0
unlimited : found (greatest (pos 0) (pos 0) (pos 0) (negsuc 999999999)) (rule.ZeroLimits limit.Capacity) ≡ []
unfolding greatest small small_sets at by_default told rt
unlimited = refl

limited : found (greatest (pos 0) (pos 0) (pos 0) (pos 1)) (rule.ZeroLimits limit.Capacity) ≡ []
unfolding greatest small small_sets at by_default told rt
limited = refl

-- nothing may be emitted in 2021 and 2023, by default; a 0 that the file gives is meant
no_emissions : found (small (at param.ANNUAL_EMISSION_LIMIT (rt (codes "E") (codes "2020")) (whole 5) ∷ []) (by_default param.ANNUAL_EMISSION_LIMIT (pos 0) ∷ [])) (rule.ZeroEmissions emission_limit.Annual)
    ≡ told (rule.ZeroEmissions emission_limit.Annual) 0 0 0 0 0 (pos 0) (pos 0) ∷ []
unfolding small small_sets at by_default told rt
no_emissions = refl

no_emissions_meant : found (small (at param.MODEL_PERIOD_EMISSION_LIMIT (codes "R" ∷ codes "E" ∷ []) (pos 0) ∷ []) (by_default param.MODEL_PERIOD_EMISSION_LIMIT (pos 0) ∷ [])) (rule.ZeroEmissions emission_limit.ModelPeriod) ≡ []
unfolding small small_sets at by_default told rt
no_emissions_meant = refl

no_emissions_ever : found (small [] (by_default param.MODEL_PERIOD_EMISSION_LIMIT (pos 0) ∷ [])) (rule.ZeroEmissions emission_limit.ModelPeriod) ≡ told (rule.ZeroEmissions emission_limit.ModelPeriod) 0 0 0 0 0 (pos 0) (pos 0) ∷ []
unfolding small small_sets at by_default told rt
no_emissions_ever = refl

-- ---- high limits

towering : found (small (at param.TOTAL_ANNUAL_MAX_CAPACITY (rt (codes "U") (codes "2023")) (whole 99999) ∷ []) []) (rule.HighLimits (ceiling.Technology limit.Capacity)) ≡ told (rule.HighLimits (ceiling.Technology limit.Capacity)) 0 0 0 0 0 (pos 0) (pos 0) ∷ []
unfolding small small_sets at by_default told rt
towering = refl

not_towering : found (small (at param.TOTAL_ANNUAL_MAX_CAPACITY (rt (codes "U") (codes "2023")) (pos 99998999999999) ∷ []) []) (rule.HighLimits (ceiling.Technology limit.Capacity)) ≡ []
unfolding small small_sets at by_default told rt
not_towering = refl

-- a limit of the model period, and those of emissions, each with a near miss
towering_period : found (small (at param.TOTAL_TECHNOLOGY_MODEL_PERIOD_ACTIVITY_UPPER_LIMIT (codes "R" ∷ codes "U" ∷ []) (whole 99999) ∷ []) []) (rule.HighLimits ceiling.Period) ≡ told (rule.HighLimits ceiling.Period) 0 0 0 0 0 (pos 0) (pos 0) ∷ []
unfolding small small_sets at by_default told rt
towering_period = refl

not_towering_period : found (small (at param.TOTAL_TECHNOLOGY_MODEL_PERIOD_ACTIVITY_UPPER_LIMIT (codes "R" ∷ codes "U" ∷ []) (pos 99998999999999) ∷ []) []) (rule.HighLimits ceiling.Period) ≡ []
unfolding small small_sets at by_default told rt
not_towering_period = refl

towering_emission : found (small (at param.ANNUAL_EMISSION_LIMIT (rt (codes "E") (codes "2023")) (whole 99999) ∷ []) []) (rule.HighLimits (ceiling.Emission emission_limit.Annual)) ≡ told (rule.HighLimits (ceiling.Emission emission_limit.Annual)) 0 0 0 0 0 (pos 0) (pos 0) ∷ []
unfolding small small_sets at by_default told rt
towering_emission = refl

not_towering_emission : found (small (at param.ANNUAL_EMISSION_LIMIT (rt (codes "E") (codes "2023")) (pos 99998999999999) ∷ []) []) (rule.HighLimits (ceiling.Emission emission_limit.Annual)) ≡ []
unfolding small small_sets at by_default told rt
not_towering_emission = refl

towering_emissions : found (small (at param.MODEL_PERIOD_EMISSION_LIMIT (codes "R" ∷ codes "E" ∷ []) (whole 99999) ∷ []) []) (rule.HighLimits (ceiling.Emission emission_limit.ModelPeriod)) ≡ told (rule.HighLimits (ceiling.Emission emission_limit.ModelPeriod)) 0 0 0 0 0 (pos 0) (pos 0) ∷ []
unfolding small small_sets at by_default told rt
towering_emissions = refl

not_towering_emissions : found (small (at param.MODEL_PERIOD_EMISSION_LIMIT (codes "R" ∷ codes "E" ∷ []) (pos 99998999999999) ∷ []) []) (rule.HighLimits (ceiling.Emission emission_limit.ModelPeriod)) ≡ []
unfolding small small_sets at by_default told rt
not_towering_emissions = refl

-- ---- limits of emissions that nothing gives off: any number but -1 is one, also another below 0

idle_below_zero : found (small (at param.MODEL_PERIOD_EMISSION_LIMIT (codes "R" ∷ codes "E" ∷ []) (negsuc 1999999999) ∷ []) (by_default param.ANNUAL_EMISSION_LIMIT (negsuc 999999999) ∷ [])) rule.IdleLimit ≡ told rule.IdleLimit 0 0 0 0 0 (pos 0) (pos 0) ∷ []
unfolding small small_sets at by_default told rt
idle_below_zero = refl

idle_in_a_year : found (small (at param.ANNUAL_EMISSION_LIMIT (rt (codes "E") (codes "2021")) (negsuc 1999999999) ∷ []) (by_default param.ANNUAL_EMISSION_LIMIT (negsuc 999999999) ∷ by_default param.MODEL_PERIOD_EMISSION_LIMIT (negsuc 999999999) ∷ [])) rule.IdleLimit ≡ told rule.IdleLimit 0 0 0 0 0 (pos 0) (pos 0) ∷ []
unfolding small small_sets at by_default told rt
idle_in_a_year = refl

not_idle : found (small [] (by_default param.ANNUAL_EMISSION_LIMIT (negsuc 999999999) ∷ by_default param.MODEL_PERIOD_EMISSION_LIMIT (negsuc 999999999) ∷ [])) rule.IdleLimit ≡ []
unfolding small small_sets at by_default told rt
not_idle = refl
