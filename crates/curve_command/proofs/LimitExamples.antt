-- Two technologies that make a fuel, one at an investment of 5 with a unit of an emission for each unit that it makes, the other at one of 10 without: running costs
-- are 3, the demand is 10. At a limit x on the emissions of the model period the least cost is 130 - 5 x, and 80 from 10 on.
use Rattle.curve_command.proofs.Common.{◌≡◌, ℕ, ◌+◌, ◌-◌, ◌*◌, ◌^◌, ℤ, pos, negsuc, neg_ℤ, ◌+ℤ◌, ◌*ℤ◌, Bool, true, false, List, [], ◌∷◌, map, refl, list_all, is_eq, Rational, whole, Data, Default, ANNUAL_EMISSION_LIMIT, AVAILABILITY_FACTOR, CAPACITY_FACTOR, CAPACITY_TO_ACTIVITY_UNIT, CAPITAL_COST, DEPRECIATION_METHOD, EMISSION_ACTIVITY_RATIO, FIXED_COST, MODEL_PERIOD_EMISSION_LIMIT, MODEL_PERIOD_EXOGENOUS_EMISSION, OPERATIONAL_LIFE, OUTPUT_ACTIVITY_RATIO, SPECIFIED_ANNUAL_DEMAND, SPECIFIED_DEMAND_PROFILE, TOTAL_ANNUAL_MAX_CAPACITY, TOTAL_ANNUAL_MAX_CAPACITY_INVESTMENT, TOTAL_TECHNOLOGY_ANNUAL_ACTIVITY_UPPER_LIMIT, VARIABLE_COST, YEAR_SPLIT, Var, DEMAND, MODEL_PERIOD_EMISSIONS, RATE_OF_DEMAND, row_name_cmp, subscripts_of_kind, instances, is_instance, is_one_of, model_period_emission_limit, cost, meets, model_period_emissions, above_limit, limit_at, with_limit}
use Rattle.std.specs.Prelude.{◌&&◌, ◌||◌, codes, if◌then◌else◌, int_le, nat_eq, slice_index_or}
use Rattle.discount_factors.specs.Factors.{capital_factor, discounted, half_year_root, operating_factor, root_from, salvage_fraction}
use Rattle.row_core.specs.Subscripts as place

-- ---- data

abbrev default : ℕ → ℤ → Default
default param units = record { param = param; value = units *ℤ pos (10 ^ 9) }

-- with so much exogenous emission of the period, and no limit
abbrev two_technologies : ℕ → Data
two_technologies exogenous = record {
  sets = (codes "R" ∷ []) ∷ (codes "T" ∷ codes "U" ∷ []) ∷ (codes "F" ∷ []) ∷ (codes "CO2" ∷ []) ∷ (codes "1" ∷ []) ∷ (codes "D" ∷ []) ∷ (codes "2020" ∷ []) ∷ [] ∷ [] ∷ [] ∷ [] ∷ [];
  given =
      record { param = CAPITAL_COST; index = codes "R" ∷ codes "U" ∷ codes "2020" ∷ []; value = pos (10 * 10 ^ 9) }
      ∷ record { param = EMISSION_ACTIVITY_RATIO; index = codes "R" ∷ codes "U" ∷ codes "CO2" ∷ codes "1" ∷ codes "2020" ∷ []; value = pos 0 } ∷ [];
  defaults =
      default YEAR_SPLIT (pos 1) ∷ default DEPRECIATION_METHOD (pos 1) ∷ default SPECIFIED_ANNUAL_DEMAND (pos 10) ∷ default SPECIFIED_DEMAND_PROFILE (pos 1)
      ∷ default CAPACITY_TO_ACTIVITY_UNIT (pos 1) ∷ default CAPACITY_FACTOR (pos 1) ∷ default AVAILABILITY_FACTOR (pos 1) ∷ default OPERATIONAL_LIFE (pos 1)
      ∷ default OUTPUT_ACTIVITY_RATIO (pos 1) ∷ default CAPITAL_COST (pos 5) ∷ default VARIABLE_COST (pos 2) ∷ default FIXED_COST (pos 1)
      ∷ default TOTAL_ANNUAL_MAX_CAPACITY (neg_ℤ (pos 1)) ∷ default TOTAL_ANNUAL_MAX_CAPACITY_INVESTMENT (neg_ℤ (pos 1)) ∷ default TOTAL_TECHNOLOGY_ANNUAL_ACTIVITY_UPPER_LIMIT (neg_ℤ (pos 1))
      ∷ default ANNUAL_EMISSION_LIMIT (neg_ℤ (pos 1)) ∷ default MODEL_PERIOD_EMISSION_LIMIT (neg_ℤ (pos 1)) ∷ default EMISSION_ACTIVITY_RATIO (pos 1)
      ∷ default MODEL_PERIOD_EXOGENOUS_EMISSION (pos exogenous) ∷ [];
  second = false;
}

-- ---- the limit in the data

-- a limit of -1 has no equation, one of 4 has
no_limit : is_instance (two_technologies 0) (limit_at 0 0) ≡ false
no_limit = refl

four : is_instance (with_limit (two_technologies 0) 0 0 (pos (4 * 10 ^ 9))) (limit_at 0 0) ≡ true
four = refl

-- it is the value of the one emission in the one region, and a value that was given before isn't
four_billions : model_period_emission_limit (with_limit (two_technologies 0) 0 0 (pos (4 * 10 ^ 9))) 0 0 ≡ pos (4 * 10 ^ 9)
four_billions = refl

last_given : model_period_emission_limit (with_limit (with_limit (two_technologies 0) 0 0 (pos 7)) 0 0 (pos 4)) 0 0 ≡ pos 4
last_given = refl

-- ---- plans

-- the value of each kind for each unit that the first technology makes
abbrev for_one : List ℕ
for_one =
    -- RateOfActivity, NewCapacity, Trade, RateOfDemand, AccumulatedNewCapacity, TotalCapacityAnnual, RateOfTotalActivity
    1 ∷ 1 ∷ 0 ∷ 0 ∷ 1 ∷ 1 ∷ 1
    -- rates of production and of use
    ∷ 1 ∷ 1 ∷ 1 ∷ 0 ∷ 0 ∷ 0
    -- Production, Use, Demand, ProductionAnnual, UseAnnual, TradeAnnual
    ∷ 1 ∷ 0 ∷ 0 ∷ 1 ∷ 0 ∷ 0
    -- ProductionByTechnology, UseByTechnology, TotalAnnualTechnologyActivityByMode
    ∷ 1 ∷ 0 ∷ 1
    -- investment and salvage, operating costs, emissions and their penalty
    ∷ 5 ∷ 5 ∷ 0 ∷ 0 ∷ 2 ∷ 1 ∷ 3 ∷ 3 ∷ 1 ∷ 1 ∷ 0 ∷ 0 ∷ 0
    -- total costs, TotalTechnologyAnnualActivity, TotalTechnologyModelPeriodActivity
    ∷ 8 ∷ 8 ∷ 8 ∷ 1 ∷ 1
    -- reserve margin, ProductionByTechnologyAnnual, the renewable target, UseByTechnologyAnnual, emissions
    ∷ 0 ∷ 0 ∷ 1 ∷ 0 ∷ 0 ∷ 0 ∷ 1 ∷ 1 ∷ []

-- and the second
abbrev for_other : List ℕ
for_other =
    1 ∷ 1 ∷ 0 ∷ 0 ∷ 1 ∷ 1 ∷ 1 ∷ 1 ∷ 1 ∷ 1 ∷ 0 ∷ 0 ∷ 0 ∷ 1 ∷ 0 ∷ 0 ∷ 1 ∷ 0 ∷ 0 ∷ 1 ∷ 0 ∷ 1
    ∷ 10 ∷ 10 ∷ 0 ∷ 0 ∷ 2 ∷ 1 ∷ 3 ∷ 3 ∷ 0 ∷ 0 ∷ 0 ∷ 0 ∷ 0 ∷ 13 ∷ 13 ∷ 13 ∷ 1 ∷ 1 ∷ 0 ∷ 0 ∷ 1 ∷ 0 ∷ 0 ∷ 0 ∷ 0 ∷ 0 ∷ []

-- the plan in which the first makes n units, the other the rest of 10; with exogenous emissions
abbrev making : ℕ → ℕ → Var → ℤ
making exogenous n v =
    let one : ℕ = slice_index_or for_one (v.kind - 1) 0 * n in
    let other : ℕ = slice_index_or for_other (v.kind - 1) 0 * (10 - n) in
    if nat_eq v.kind RATE_OF_DEMAND || nat_eq v.kind DEMAND then pos 10
    else if nat_eq v.kind MODEL_PERIOD_EMISSIONS then pos (n + exogenous)
    else if is_one_of (subscripts_of_kind v.kind) place.t then (if nat_eq v.index.tech 0 then pos one else pos other)
    else pos (one + other)

-- the plan keeps the limit a over b and meets every other equation, as a test
abbrev is_within : ℕ → ℤ → ℕ → (Var → ℤ) → Bool
is_within exogenous a b x =
    list_all (λ name. is_eq (row_name_cmp name (limit_at 0 0)) || meets 6 (two_technologies exogenous) 1 x name) (instances (two_technologies exogenous))
    && int_le (pos b *ℤ x (model_period_emissions 0 0)) (a *ℤ pos 1)

-- with so much exogenous emission, at the limit a over b, when the first makes so many units: at 4 four keep it and five don't, and neither do five at 9/2; ten do at 20. Beside 5
-- that come whatever is made no plan keeps a limit of 4; four units keep one of 9.
keeps : map (λ (t : ℕ × ℕ × ℕ × ℕ). is_within t.0 (pos t.1) t.2 (making t.0 t.3)) ((0, 4, 1, 4) ∷ (0, 4, 1, 5) ∷ (0, 9, 2, 5) ∷ (0, 20, 1, 10) ∷ (5, 4, 1, 0) ∷ (5, 9, 1, 4) ∷ [])
    ≡ true ∷ false ∷ false ∷ true ∷ false ∷ true ∷ []
unfolding discounted capital_factor root_from half_year_root operating_factor salvage_fraction
keeps = refl

costs : map (λ n. cost (two_technologies 0) (making 0 n)) (4 ∷ 7 ∷ 10 ∷ []) ≡ pos 110 ∷ pos 95 ∷ pos 80 ∷ []
costs = refl

-- ---- lines

-- CostsAtLeast as a test, at the limit a over b, of a line at the limit of so many units
abbrev costs_at_least : (Var → ℤ) → Rational → Rational → ℕ → ℤ → ℕ → Bool
costs_at_least x bound slope limit a b =
    let more : ℤ = above_limit (pos (limit * 10 ^ 9)) a b in
    int_le ((bound.top *ℤ slope.bottom *ℤ pos (10 ^ 9 * b) +ℤ slope.top *ℤ more *ℤ bound.bottom) *ℤ pos 1) (bound.bottom *ℤ slope.bottom *ℤ pos (10 ^ 9 * b) *ℤ cost (two_technologies 0) x)

-- what so many units cost is at least the line, at limits that they keep: through 110 at 4 with the slope -5, and through 80 at 20 with a slope of 0
below : map (λ (t : ℕ × ℕ × ℤ × ℕ × ℕ × ℕ). costs_at_least (making 0 t.0) (whole (pos t.1)) (whole t.2) t.3 (pos t.4) t.5)
    ((4, 110, negsuc 4, 4, 4, 1) ∷ (7, 110, negsuc 4, 4, 15, 2) ∷ (10, 110, negsuc 4, 4, 20, 1) ∷ (4, 80, pos 0, 20, 4, 1) ∷ (10, 80, pos 0, 20, 10, 1) ∷ [])
    ≡ true ∷ true ∷ true ∷ true ∷ true ∷ []
below = refl

-- through 110 at 4 a slope of 0 is too high at 20, and one of -4 at 7; through 80 at 20 one of -5 is too high at 10
too_high : map (λ (t : ℕ × ℕ × ℤ × ℕ × ℕ × ℕ). costs_at_least (making 0 t.0) (whole (pos t.1)) (whole t.2) t.3 (pos t.4) t.5)
    ((10, 110, pos 0, 4, 20, 1) ∷ (7, 110, negsuc 3, 4, 7, 1) ∷ (10, 80, negsuc 4, 20, 10, 1) ∷ [])
    ≡ false ∷ false ∷ false ∷ []
too_high = refl
