-- The tables of sets and parameters, computed: each number names its word, and what the entries say.
use Rattle.model_sets.proofs.Common.{◌≡◌, ℕ, Bool, true, false, ◌∷◌, [], ◌++◌, List, Some, None, refl, map, length, codes, filter, range_with_len, unit_capacity, set_number, set_word, set_words, limits, set_count, is_used, param_at, param_count, param_number, param_word, param_words, params, range_of, results_path, subscript_count, subscript_sets}
use Rattle.model_sets.specs.declared.set_numbers.TheConstants.{REGION, TECHNOLOGY, FUEL, EMISSION, MODE_OF_OPERATION, TIMESLICE, YEAR, STORAGE, SEASON, DAYTYPE, DAILYTIMEBRACKET, SET_COUNT}
use Rattle.model_sets.specs.declared.param_numbers.TheConstants.{YEAR_SPLIT, DISCOUNT_RATE, DEPRECIATION_METHOD, TRADE_ROUTE, SPECIFIED_ANNUAL_DEMAND, SPECIFIED_DEMAND_PROFILE, ACCUMULATED_ANNUAL_DEMAND, CAPACITY_TO_ACTIVITY_UNIT, CAPACITY_FACTOR, AVAILABILITY_FACTOR, OPERATIONAL_LIFE, RESIDUAL_CAPACITY, INPUT_ACTIVITY_RATIO, OUTPUT_ACTIVITY_RATIO, CAPITAL_COST, VARIABLE_COST, FIXED_COST, CAPACITY_OF_ONE_TECHNOLOGY_UNIT, TOTAL_ANNUAL_MAX_CAPACITY, TOTAL_ANNUAL_MIN_CAPACITY, TOTAL_ANNUAL_MAX_CAPACITY_INVESTMENT, TOTAL_ANNUAL_MIN_CAPACITY_INVESTMENT, TOTAL_TECHNOLOGY_ANNUAL_ACTIVITY_UPPER_LIMIT, TOTAL_TECHNOLOGY_ANNUAL_ACTIVITY_LOWER_LIMIT, TOTAL_TECHNOLOGY_MODEL_PERIOD_ACTIVITY_UPPER_LIMIT, TOTAL_TECHNOLOGY_MODEL_PERIOD_ACTIVITY_LOWER_LIMIT, RESERVE_MARGIN_TAG_TECHNOLOGY, RESERVE_MARGIN_TAG_FUEL, RESERVE_MARGIN, RE_TAG_TECHNOLOGY, RE_TAG_FUEL, RE_MIN_PRODUCTION_TARGET, EMISSION_ACTIVITY_RATIO, EMISSIONS_PENALTY, ANNUAL_EXOGENOUS_EMISSION, ANNUAL_EMISSION_LIMIT, MODEL_PERIOD_EXOGENOUS_EMISSION, MODEL_PERIOD_EMISSION_LIMIT, CONVERSIONLS, CONVERSIONLD, CONVERSIONLH, DAY_SPLIT, DAYS_IN_DAY_TYPE, RESULTS_PATH, TECHNOLOGY_TO_STORAGE, TECHNOLOGY_FROM_STORAGE, STORAGE_LEVEL_START, STORAGE_MAX_CHARGE_RATE, STORAGE_MAX_DISCHARGE_RATE, MIN_STORAGE_CHARGE, OPERATIONAL_LIFE_STORAGE, CAPITAL_COST_STORAGE, RESIDUAL_STORAGE_CAPACITY, DISCOUNT_RATE_STORAGE, DISCOUNT_RATE_IDV, USED_PARAM_COUNT, PARAM_COUNT}
use Rattle.model_sets.specs.declared.params.Range.{Range}
use Rattle.model_sets.specs.declared.params.Range.TheVariants.{Any, AtLeastZero, AboveZero, ZeroToOne, OneOrTwo, Lifetime, ZeroOnly, MinusOneOrAtLeastZero}

-- ---- sets

set_counts : length set_words ∷ length limits ∷ set_count ∷ [] ≡ SET_COUNT ∷ SET_COUNT ∷ SET_COUNT ∷ []
set_counts = refl

set_names : map set_word (REGION ∷ TECHNOLOGY ∷ FUEL ∷ EMISSION ∷ MODE_OF_OPERATION ∷ TIMESLICE ∷ YEAR ∷ STORAGE ∷ SEASON ∷ DAYTYPE ∷ DAILYTIMEBRACKET ∷ []) ≡ set_words
set_names = refl

numbers_of_sets : map set_number set_words ≡ map (λ k. Some k) (range_with_len 1 set_count)
numbers_of_sets = refl

-- ---- parameters: words and numbers

param_counts : length params ∷ param_count ∷ [] ≡ PARAM_COUNT ∷ PARAM_COUNT ∷ []
param_counts = refl

-- the named numbers, in their order
numbers : List ℕ
numbers =
    YEAR_SPLIT
    ∷ DISCOUNT_RATE
    ∷ DEPRECIATION_METHOD
    ∷ TRADE_ROUTE
    ∷ SPECIFIED_ANNUAL_DEMAND
    ∷ SPECIFIED_DEMAND_PROFILE
    ∷ ACCUMULATED_ANNUAL_DEMAND
    ∷ CAPACITY_TO_ACTIVITY_UNIT
    ∷ CAPACITY_FACTOR
    ∷ AVAILABILITY_FACTOR
    ∷ OPERATIONAL_LIFE
    ∷ RESIDUAL_CAPACITY
    ∷ INPUT_ACTIVITY_RATIO
    ∷ OUTPUT_ACTIVITY_RATIO
    ∷ CAPITAL_COST
    ∷ VARIABLE_COST
    ∷ FIXED_COST
    ∷ CAPACITY_OF_ONE_TECHNOLOGY_UNIT
    ∷ TOTAL_ANNUAL_MAX_CAPACITY
    ∷ TOTAL_ANNUAL_MIN_CAPACITY
    ∷ TOTAL_ANNUAL_MAX_CAPACITY_INVESTMENT
    ∷ TOTAL_ANNUAL_MIN_CAPACITY_INVESTMENT
    ∷ TOTAL_TECHNOLOGY_ANNUAL_ACTIVITY_UPPER_LIMIT
    ∷ TOTAL_TECHNOLOGY_ANNUAL_ACTIVITY_LOWER_LIMIT
    ∷ TOTAL_TECHNOLOGY_MODEL_PERIOD_ACTIVITY_UPPER_LIMIT
    ∷ TOTAL_TECHNOLOGY_MODEL_PERIOD_ACTIVITY_LOWER_LIMIT
    ∷ RESERVE_MARGIN_TAG_TECHNOLOGY
    ∷ RESERVE_MARGIN_TAG_FUEL
    ∷ RESERVE_MARGIN
    ∷ RE_TAG_TECHNOLOGY
    ∷ RE_TAG_FUEL
    ∷ RE_MIN_PRODUCTION_TARGET
    ∷ EMISSION_ACTIVITY_RATIO
    ∷ EMISSIONS_PENALTY
    ∷ ANNUAL_EXOGENOUS_EMISSION
    ∷ ANNUAL_EMISSION_LIMIT
    ∷ MODEL_PERIOD_EXOGENOUS_EMISSION
    ∷ MODEL_PERIOD_EMISSION_LIMIT
    ∷ CONVERSIONLS
    ∷ CONVERSIONLD
    ∷ CONVERSIONLH
    ∷ DAY_SPLIT
    ∷ DAYS_IN_DAY_TYPE
    ∷ RESULTS_PATH
    ∷ TECHNOLOGY_TO_STORAGE
    ∷ TECHNOLOGY_FROM_STORAGE
    ∷ STORAGE_LEVEL_START
    ∷ STORAGE_MAX_CHARGE_RATE
    ∷ STORAGE_MAX_DISCHARGE_RATE
    ∷ MIN_STORAGE_CHARGE
    ∷ OPERATIONAL_LIFE_STORAGE
    ∷ CAPITAL_COST_STORAGE
    ∷ RESIDUAL_STORAGE_CAPACITY
    ∷ DISCOUNT_RATE_STORAGE
    ∷ DISCOUNT_RATE_IDV
    ∷ []

param_names : map param_word numbers ≡ param_words
unfolding numbers
param_names = refl

in_order : numbers ≡ range_with_len 1 param_count
unfolding numbers
in_order = refl

numbers_of_params : map param_number param_words ≡ map (λ n. Some n) (range_with_len 1 param_count)
numbers_of_params = refl

some_words : map param_word (YEAR_SPLIT ∷ unit_capacity ∷ TOTAL_TECHNOLOGY_MODEL_PERIOD_ACTIVITY_LOWER_LIMIT ∷ RE_MIN_PRODUCTION_TARGET ∷ results_path ∷ DISCOUNT_RATE_IDV ∷ []) ≡ codes "YearSplit" ∷ codes "CapacityOfOneTechnologyUnit" ∷ codes "TotalTechnologyModelPeriodActivityLowerLimit" ∷ codes "REMinProductionTarget" ∷ codes "ResultsPath" ∷ codes "DiscountRateIdv" ∷ []
some_words = refl

-- capitals tell words apart, and no word is both a set's and a parameter's
other_words : param_number (codes "yearSplit") ∷ param_number (codes "YEAR") ∷ set_number (codes "YearSplit") ∷ set_number (codes "Year") ∷ [] ≡ None ∷ None ∷ None ∷ None ∷ []
other_words = refl

-- ---- parameters: subscripts, ranges and use

used_subscripts : map subscript_count (range_with_len 1 USED_PARAM_COUNT) ≡ 2 ∷ 1 ∷ 1 ∷ 4 ∷ 3 ∷ 4 ∷ 3 ∷ 2 ∷ 4 ∷ 3 ∷ 2 ∷ 3 ∷ 5 ∷ 5 ∷ 3 ∷ 4 ∷ 3 ∷ 3 ∷ 3 ∷ 3 ∷ 3 ∷ 3 ∷ 3 ∷ 3 ∷ 2 ∷ 2 ∷ 3 ∷ 3 ∷ 2 ∷ 3 ∷ 3 ∷ 2 ∷ 5 ∷ 3 ∷ 3 ∷ 3 ∷ 2 ∷ 2 ∷ []
used_subscripts = refl

-- those that are read and not used, and DiscountRateIdv
other_subscripts : map subscript_count (range_with_len CONVERSIONLS 17) ≡ 2 ∷ 2 ∷ 2 ∷ 2 ∷ 3 ∷ 0 ∷ 4 ∷ 4 ∷ 2 ∷ 2 ∷ 2 ∷ 3 ∷ 2 ∷ 3 ∷ 3 ∷ 2 ∷ 2 ∷ []
other_subscripts = refl

-- TradeRoute has the region twice
some_subscripts : map subscript_sets (YEAR_SPLIT ∷ TRADE_ROUTE ∷ INPUT_ACTIVITY_RATIO ∷ EMISSION_ACTIVITY_RATIO ∷ DISCOUNT_RATE_IDV ∷ []) ≡ (TIMESLICE ∷ YEAR ∷ []) ∷ (REGION ∷ REGION ∷ FUEL ∷ YEAR ∷ []) ∷ (REGION ∷ TECHNOLOGY ∷ FUEL ∷ MODE_OF_OPERATION ∷ YEAR ∷ []) ∷ (REGION ∷ TECHNOLOGY ∷ EMISSION ∷ MODE_OF_OPERATION ∷ YEAR ∷ []) ∷ (REGION ∷ TECHNOLOGY ∷ []) ∷ []
some_subscripts = refl

-- whether the range is neither 0 and above nor any
is_special : Range → Bool
is_special Any = false
is_special AtLeastZero = false
is_special range = true

-- the parameters with a range of their own kind
special_ranges : map {B = ℕ × Range} (λ n. (n, range_of n)) (filter (λ n. is_special (range_of n)) (range_with_len 1 param_count))
    ≡ (YEAR_SPLIT, AboveZero) ∷ (DISCOUNT_RATE, ZeroToOne) ∷ (DEPRECIATION_METHOD, OneOrTwo) ∷ (OPERATIONAL_LIFE, Lifetime) ∷ (CAPACITY_OF_ONE_TECHNOLOGY_UNIT, ZeroOnly)
    ∷ (TOTAL_ANNUAL_MAX_CAPACITY, MinusOneOrAtLeastZero) ∷ (TOTAL_ANNUAL_MAX_CAPACITY_INVESTMENT, MinusOneOrAtLeastZero)
    ∷ (TOTAL_TECHNOLOGY_ANNUAL_ACTIVITY_UPPER_LIMIT, MinusOneOrAtLeastZero) ∷ (TOTAL_TECHNOLOGY_MODEL_PERIOD_ACTIVITY_UPPER_LIMIT, MinusOneOrAtLeastZero)
    ∷ (DISCOUNT_RATE_IDV, ZeroToOne) ∷ []
unfolding is_special
special_ranges = refl

-- whether the range is that of any number
is_any : Range → Bool
is_any Any = true
is_any range = false

-- the used parameters that may have any value: costs, ratios and limits of emissions
any_value : filter (λ n. is_any (range_of n)) (range_with_len 1 USED_PARAM_COUNT)
    ≡ CAPITAL_COST ∷ VARIABLE_COST ∷ FIXED_COST ∷ EMISSION_ACTIVITY_RATIO ∷ EMISSIONS_PENALTY ∷ ANNUAL_EXOGENOUS_EMISSION ∷ ANNUAL_EMISSION_LIMIT ∷ MODEL_PERIOD_EXOGENOUS_EMISSION ∷ MODEL_PERIOD_EMISSION_LIMIT ∷ []
unfolding is_any
any_value = refl

-- the parameters that are used in data without a statement for DiscountRateIdv, and in data with one
used_without : filter (λ n. is_used false (param_at n).used) (range_with_len 1 param_count) ≡ range_with_len 1 USED_PARAM_COUNT
used_without = refl

used_with : filter (λ n. is_used true (param_at n).used) (range_with_len 1 param_count) ≡ range_with_len 1 USED_PARAM_COUNT ++ DISCOUNT_RATE_IDV ∷ []
used_with = refl
