-- Rates and shares that look like per cent, and routes that lead one way.
use Rattle.std.specs.Prelude.{ℕ, ℤ, pos, Bool, ◌&&◌, ◌||◌, not, [], ◌∷◌, int_lt, nat_eq, nat_lt}
use Rattle.std.specs.Ordering.{int_eq}
use Rattle.model_sets.specs.Data.{Data}
use Rattle.model_sets.specs.declared.param_numbers.TheConstants.{DISCOUNT_RATE, TRADE_ROUTE, AVAILABILITY_FACTOR, RE_MIN_PRODUCTION_TARGET}
use Rattle.data_warnings.specs.Values.{is_above_zero, value, whole}

-- the discount rate of a region
abbrev pub discount_rate : Data → ℕ → ℤ
discount_rate d r = value d DISCOUNT_RATE (r ∷ [])

-- it is above 25 per cent, or above 0 and below half of one
abbrev pub is_odd_rate : ℤ → Bool
is_odd_rate rate = int_lt (pos 250000000) rate || is_above_zero rate && int_lt rate (pos 5000000)

-- the value is above 1
abbrev pub is_above_one : ℤ → Bool
is_above_one v = int_lt (whole 1) v

-- the part of the year for which a technology is available
abbrev pub availability : Data → ℕ → ℕ → ℕ → ℤ
availability d r t y = value d AVAILABILITY_FACTOR (r ∷ t ∷ y ∷ [])

-- the least share of renewable production
abbrev pub target : Data → ℕ → ℕ → ℤ
target d r y = value d RE_MIN_PRODUCTION_TARGET (r ∷ y ∷ [])

-- the route by which one region gets a fuel of another
abbrev pub route : Data → ℕ → ℕ → ℕ → ℕ → ℤ
route d r rr f y = value d TRADE_ROUTE (r ∷ rr ∷ f ∷ y ∷ [])

-- there is a route from one region to another, and none back
abbrev pub leads_one_way : Data → ℕ → ℕ → ℕ → ℕ → Bool
leads_one_way d r rr f y = not (nat_eq r rr) && is_above_zero (route d r rr f y) && not (is_above_zero (route d rr r f y))

-- two regions, in their order, get the fuel of each other
abbrev pub leads_both_ways : Data → ℕ → ℕ → ℕ → ℕ → Bool
leads_both_ways d r rr f y = nat_lt r rr && is_above_zero (route d r rr f y) && is_above_zero (route d rr r f y)

-- the same part of what one gets is taken off the other, and not all of it: what is sent is what comes, whatever the part
abbrev pub is_equal_route : Data → ℕ → ℕ → ℕ → ℕ → Bool
is_equal_route d r rr f y = leads_both_ways d r rr f y && int_eq (route d r rr f y) (route d rr r f y) && not (int_eq (route d r rr f y) (whole 1))

-- what one gets isn't what the other loses, whichever sends it
abbrev pub is_unequal_route : Data → ℕ → ℕ → ℕ → ℕ → Bool
is_unequal_route d r rr f y = leads_both_ways d r rr f y && not (int_eq (route d r rr f y) (route d rr r f y))
