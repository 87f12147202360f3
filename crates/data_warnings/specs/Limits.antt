-- Limits that contradict each other, and costs below 0 that no limit holds.
use Rattle.std.specs.Prelude.{ℕ, ℤ, pos, Bool, ◌&&◌, ◌||◌, not, [], ◌∷◌, int_le, int_lt}
use Rattle.model_sets.specs.Data.{Data}
use Rattle.model_sets.specs.declared.param_numbers.TheConstants.{CAPITAL_COST, FIXED_COST, VARIABLE_COST, RESIDUAL_CAPACITY, TOTAL_ANNUAL_MAX_CAPACITY, TOTAL_ANNUAL_MIN_CAPACITY, TOTAL_ANNUAL_MAX_CAPACITY_INVESTMENT, TOTAL_ANNUAL_MIN_CAPACITY_INVESTMENT, TOTAL_TECHNOLOGY_ANNUAL_ACTIVITY_UPPER_LIMIT, TOTAL_TECHNOLOGY_ANNUAL_ACTIVITY_LOWER_LIMIT, TOTAL_TECHNOLOGY_MODEL_PERIOD_ACTIVITY_UPPER_LIMIT, TOTAL_TECHNOLOGY_MODEL_PERIOD_ACTIVITY_LOWER_LIMIT}
use Rattle.data_warnings.specs.declared.rules.Cost.{Cost}
use Rattle.data_warnings.specs.declared.rules.Cost.TheVariants as cost
use Rattle.data_warnings.specs.declared.rules.Pair.{Pair}
use Rattle.data_warnings.specs.declared.rules.Pair.TheVariants.{Residual, Capacity, Investment, Activity}
use Rattle.data_warnings.specs.Values.{is_above_zero, value}

-- the parameter that is the least of the pair
abbrev pub least_of : Pair → ℕ
least_of Residual = RESIDUAL_CAPACITY
least_of Capacity = TOTAL_ANNUAL_MIN_CAPACITY
least_of Investment = TOTAL_ANNUAL_MIN_CAPACITY_INVESTMENT
least_of Activity = TOTAL_TECHNOLOGY_ANNUAL_ACTIVITY_LOWER_LIMIT

-- the parameter that is the greatest
abbrev pub greatest_of : Pair → ℕ
greatest_of Residual = TOTAL_ANNUAL_MAX_CAPACITY
greatest_of Capacity = TOTAL_ANNUAL_MAX_CAPACITY
greatest_of Investment = TOTAL_ANNUAL_MAX_CAPACITY_INVESTMENT
greatest_of Activity = TOTAL_TECHNOLOGY_ANNUAL_ACTIVITY_UPPER_LIMIT

-- the value is a limit, and no sign that there is none
abbrev pub is_set : ℤ → Bool
is_set limit = int_le (pos 0) limit

-- the least value
abbrev pub least_value : Data → Pair → ℕ → ℕ → ℕ → ℤ
least_value d pair r t y = value d (least_of pair) (r ∷ t ∷ y ∷ [])

-- the greatest value
abbrev pub greatest_value : Data → Pair → ℕ → ℕ → ℕ → ℤ
greatest_value d pair r t y = value d (greatest_of pair) (r ∷ t ∷ y ∷ [])

-- the greatest value is set, and the least is above it
abbrev pub is_crossed : Data → Pair → ℕ → ℕ → ℕ → Bool
is_crossed d pair r t y = is_set (greatest_value d pair r t y) && int_lt (greatest_value d pair r t y) (least_value d pair r t y)

-- the least activity of the model period
abbrev pub least_period : Data → ℕ → ℕ → ℤ
least_period d r t = value d TOTAL_TECHNOLOGY_MODEL_PERIOD_ACTIVITY_LOWER_LIMIT (r ∷ t ∷ [])

-- the greatest activity of the model period, which is none where it isn't above 0
abbrev pub greatest_period : Data → ℕ → ℕ → ℤ
greatest_period d r t = value d TOTAL_TECHNOLOGY_MODEL_PERIOD_ACTIVITY_UPPER_LIMIT (r ∷ t ∷ [])

-- the greatest is set, and the least is above it
abbrev pub is_crossed_period : Data → ℕ → ℕ → Bool
is_crossed_period d r t = is_above_zero (greatest_period d r t) && int_lt (greatest_period d r t) (least_period d r t)

-- a limit holds the technology: on its capacity, new capacity or activity of the year, or on its activity of the model period
abbrev pub is_held : Data → ℕ → ℕ → ℕ → Bool
is_held d r t y =
    is_set (value d TOTAL_ANNUAL_MAX_CAPACITY (r ∷ t ∷ y ∷ [])) || is_set (value d TOTAL_ANNUAL_MAX_CAPACITY_INVESTMENT (r ∷ t ∷ y ∷ []))
    || is_set (value d TOTAL_TECHNOLOGY_ANNUAL_ACTIVITY_UPPER_LIMIT (r ∷ t ∷ y ∷ [])) || is_above_zero (greatest_period d r t)

-- the cost of the technology, and of the mode where it is a cost of a mode
abbrev pub cost_value : Data → Cost → ℕ → ℕ → ℕ → ℕ → ℤ
cost_value d cost.Capital r t m y = value d CAPITAL_COST (r ∷ t ∷ y ∷ [])
cost_value d cost.Fixed r t m y = value d FIXED_COST (r ∷ t ∷ y ∷ [])
cost_value d cost.Variable r t m y = value d VARIABLE_COST (r ∷ t ∷ m ∷ y ∷ [])

-- the cost is below 0, and no limit holds the technology
abbrev pub is_loose : Data → Cost → ℕ → ℕ → ℕ → ℕ → Bool
is_loose d cost r t m y = int_lt (cost_value d cost r t m y) (pos 0) && not (is_held d r t y)
