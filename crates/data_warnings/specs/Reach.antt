-- A least activity that the greatest capacity can't give. The rule speaks only where all numbers are of a usual size, so that 128 bits do.
use Rattle.std.specs.Prelude.{ℕ, ◌+◌, ◌*◌, ◌/◌, ◌^◌, ℤ, pos, Bool, false, ◌&&◌, [], ◌∷◌, nat_lt, unsigned_abs, Option, Some, None, if◌then◌else◌}
use Rattle.model_sets.specs.Data.{Data}
use Rattle.model_sets.specs.declared.param_numbers.TheConstants.{AVAILABILITY_FACTOR, CAPACITY_TO_ACTIVITY_UNIT, TOTAL_ANNUAL_MAX_CAPACITY, TOTAL_TECHNOLOGY_ANNUAL_ACTIVITY_LOWER_LIMIT}
use Rattle.data_warnings.specs.declared.questions.Question.TheVariants.{WideSlice}
use Rattle.data_warnings.specs.declared.sums.Parts.TheVariants.{Effort}
use Rattle.data_warnings.specs.Decimals.{billion}
use Rattle.data_warnings.specs.Questions.{is_so_somewhere, is_within}
use Rattle.data_warnings.specs.Sums.{sum_of}
use Rattle.data_warnings.specs.Values.{is_above_zero, value, whole}

-- the least activity of the year
abbrev pub least_activity : Data → ℕ → ℕ → ℕ → ℤ
least_activity d r t y = value d TOTAL_TECHNOLOGY_ANNUAL_ACTIVITY_LOWER_LIMIT (r ∷ t ∷ y ∷ [])

-- the greatest capacity of the year
abbrev pub greatest_capacity : Data → ℕ → ℕ → ℕ → ℤ
greatest_capacity d r t y = value d TOTAL_ANNUAL_MAX_CAPACITY (r ∷ t ∷ y ∷ [])

-- a capacity's activity of a year
abbrev pub activity_unit : Data → ℕ → ℕ → ℤ
activity_unit d r t = value d CAPACITY_TO_ACTIVITY_UNIT (r ∷ t ∷ [])

-- the part of the year for which it is available
abbrev pub availability_of : Data → ℕ → ℕ → ℕ → ℤ
availability_of d r t y = value d AVAILABILITY_FACTOR (r ∷ t ∷ y ∷ [])

-- billionths of billionths as billionths, rounded up
abbrev pub up : ℕ → ℕ
up n = (n + 999999999) / billion

-- the size of a value that lies between 0 and the most, else none
abbrev pub size_within : ℤ → ℤ → Option ℕ
size_within most v = if is_within most v then Some (unsigned_abs v) else None

-- the sum over the timeslices of CapacityFactor times YearSplit, where each of them lies between 0 and 10 and the sum is at most ten millions
abbrev pub usual_effort : Data → ℕ → ℕ → ℕ → Option ℕ
usual_effort d r t y = if is_so_somewhere d (WideSlice r t y) then None else size_within (pos (10 ^ 25)) (sum_of d (Effort r t y))

-- for what two numbers give, where there are both
abbrev pub from_both : Option ℕ → Option ℕ → (ℕ → ℕ → ℕ) → Option ℕ
from_both None b f = None
from_both (Some a) None f = None
from_both (Some a) (Some b) f = Some (f a b)

-- what a capacity of 1 can do in the year at most, each product rounded up: that sum, times AvailabilityFactor, which is at most 1, times
-- CapacityToActivityUnit, which is at most a million
abbrev pub usual_most : Data → ℕ → ℕ → ℕ → Option ℕ
usual_most d r t y =
    from_both (from_both (usual_effort d r t y) (size_within (whole 1) (availability_of d r t y)) (λ effort available. up (up effort * available)))
    (size_within (whole 1000000) (activity_unit d r t)) (λ part unit. up (part * unit))

-- the number is above the product of the two, where there are both
abbrev pub is_above_both : Option ℕ → Option ℕ → ℕ → Bool
is_above_both None b n = false
is_above_both (Some a) None n = false
is_above_both (Some a) (Some b) n = nat_lt (b * a) n

-- the least activity is above what the greatest capacity can do, which is at most ten millions
abbrev pub is_above_reach : Data → ℕ → ℕ → ℕ → ℤ → Bool
is_above_reach d r t y least =
    is_above_both (size_within (whole 10000000) (greatest_capacity d r t y)) (usual_most d r t y) (unsigned_abs least * billion)

-- there is a least activity, and it is above that
abbrev pub is_unreachable : Data → ℕ → ℕ → ℕ → Bool
is_unreachable d r t y = is_above_zero (least_activity d r t y) && is_above_reach d r t y (least_activity d r t y)
