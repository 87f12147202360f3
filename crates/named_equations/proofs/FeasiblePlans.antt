-- What makes a plan feasible: a positive common denominator, every equation, and the sign of every variable that isn't free. Plans that are so, and
-- one near miss of each.
use Rattle.named_equations.proofs.Common.{◌≡◌, ℕ, ◌<◌, inl, inr, ℤ, pos, negsuc, Bool, true, false, ◌||◌, List, [], ◌∷◌, refl, sym, ap, ◌∙◌, arith, true≢false, ◌≤ℤ◌, ◌&&◌, codes, int_le, if◌then◌else◌, nat_eq, list_all, and_parts, ints, OPERATIONAL_LIFE, RESIDUAL_CAPACITY, Data, discounted, capital_factor, root_from, half_year_root, operating_factor, salvage_fraction, RowName, Var, RATE_OF_ACTIVITY, kind_is_free, all_variables, instances, Feasible, MeetsEach, meets, says, new_capacity, Has}
use Rattle.row_core.proofs.StatementLaws.{holds_sound, stands_complete}
use Rattle.named_equations.proofs.BaseFile.{base, base_sets, data_of, default, whole}
use Rattle.named_equations.proofs.BasePlan.{best, best_meets_all}
use Rattle.named_equations.proofs.InstanceTests.{Has-variables}
use Rattle.named_equations.proofs.Tables.{meets_all, tabled}
use Rattle.named_equations.proofs.Trades.{both_ways, meets_both_ways, regional, routes_both_ways}

-- ---- by tests

met_each : (places : ℕ) (d : Data) (q : ℕ) (x : Var → ℤ) (names : List RowName) → list_all (meets places d q x) names ≡ true → MeetsEach places d q x names
met_each places d q x [] passes = tt
met_each places d q x (name ∷ names) passes =
    let parts = and_parts (meets places d q x name) (list_all (meets places d q x) names) passes in
    (holds_sound (says places d q x name) parts.0, met_each places d q x names parts.1)

each_met : (places : ℕ) (d : Data) (q : ℕ) (x : Var → ℤ) (names : List RowName) → MeetsEach places d q x names → list_all (meets places d q x) names ≡ true
each_met places d q x [] met = refl
each_met places d q x (name ∷ names) met =
    let s = says places d q x name in
    ap (λ b. b && list_all (meets places d q x) names) (stands_complete s.sign s.left s.right met.0) ∙ each_met places d q x names met.1

-- the variable is free, or at least 0
abbrev keeps_sign : (Var → ℤ) → Var → Bool
keeps_sign x v = kind_is_free v.kind || int_le (pos 0) (x v)

all_at : (test : Var → Bool) (vs : List Var) (v : Var) → list_all test vs ≡ true → Has vs v → test v ≡ true
all_at test [] v passes has = absurd has
all_at test (w ∷ vs) v passes (inl e) = ap test (sym e) ∙ (and_parts (test w) (list_all test vs) passes).0
all_at test (w ∷ vs) v passes (inr has) = all_at test vs v (and_parts (test w) (list_all test vs) passes).1 has

sign_of : (free : Bool) (value : ℤ) → (free || int_le (pos 0) value) ≡ true → free ≡ false → pos 0 ≤ℤ value
sign_of true value kept fixed = absurd (true≢false fixed)
sign_of false value kept fixed = grind (arith, ints)

feasible_by : (places : ℕ) (d : Data) (q : ℕ) (x : Var → ℤ) → 0 < q → meets_all places d q x ≡ true → list_all (keeps_sign x) (all_variables d) ≡ true → Feasible places d q x
feasible_by places d q x positive met signs = record {
  positive = positive;
  equations = met_each places d q x (instances d) met;
  signs = λ v is fixed. sign_of (kind_is_free v.kind) (x v) (all_at (keeps_sign x) (all_variables d) v signs ((Has-variables d v).1 is)) fixed;
}

-- ---- plans that are so

-- the best plan of the base example
best_signs : list_all (keeps_sign (best 1)) (all_variables base) ≡ true
best_signs = refl

best_is_feasible : Feasible 6 base 1 (best 1)
best_is_feasible = feasible_by 6 base 1 (best 1) (omega arith) best_meets_all best_signs

-- a trade below 0, which is free
trade_signs : list_all (keeps_sign (regional both_ways)) (all_variables routes_both_ways) ≡ true
trade_signs = refl

trade_is_feasible : Feasible 6 routes_both_ways 1 (regional both_ways)
trade_is_feasible = feasible_by 6 routes_both_ways 1 (regional both_ways) (omega arith) meets_both_ways trade_signs

-- ---- a plan over 0

meets_over_zero : meets_all 6 base 0 (best 0) ≡ true
unfolding discounted capital_factor root_from half_year_root operating_factor salvage_fraction
meets_over_zero = refl

not_over_zero : Feasible 6 base 0 (best 0) → ⊥
not_over_zero plan = omega (arith, plan.positive)

-- ---- a capacity below 0

-- the base example over two years, with a residual capacity of 10 and a life of two years
abbrev two_years : Data
two_years = data_of (base_sets (codes "2020" ∷ codes "2021" ∷ [])) [] (default RESIDUAL_CAPACITY (whole 10) ∷ default OPERATIONAL_LIFE (whole 2) ∷ [])

-- a new capacity of 4, and of -4 a year later; by kind and year
abbrev builds_less_than_none : List (List ℤ)
builds_less_than_none =
    -- RateOfActivity, NewCapacity, Trade
    (pos 10 ∷ pos 10 ∷ []) ∷ (pos 4 ∷ negsuc 3 ∷ []) ∷ []
    -- RateOfDemand, AccumulatedNewCapacity, TotalCapacityAnnual, RateOfTotalActivity
    ∷ (pos 10 ∷ pos 10 ∷ []) ∷ (pos 4 ∷ pos 0 ∷ []) ∷ (pos 14 ∷ pos 10 ∷ []) ∷ (pos 10 ∷ pos 10 ∷ [])
    -- rates of production and of use
    ∷ (pos 10 ∷ pos 10 ∷ []) ∷ (pos 10 ∷ pos 10 ∷ []) ∷ (pos 10 ∷ pos 10 ∷ []) ∷ [] ∷ [] ∷ []
    -- Production, Use, Demand, ProductionAnnual, UseAnnual, TradeAnnual
    ∷ (pos 10 ∷ pos 10 ∷ []) ∷ [] ∷ (pos 10 ∷ pos 10 ∷ []) ∷ (pos 10 ∷ pos 10 ∷ []) ∷ [] ∷ []
    -- ProductionByTechnology, UseByTechnology, TotalAnnualTechnologyActivityByMode
    ∷ (pos 10 ∷ pos 10 ∷ []) ∷ [] ∷ (pos 10 ∷ pos 10 ∷ [])
    -- CapitalInvestment and SalvageValue, each with its discounted value
    ∷ (pos 20 ∷ negsuc 19 ∷ []) ∷ (pos 20 ∷ negsuc 19 ∷ []) ∷ (pos 0 ∷ negsuc 9 ∷ []) ∷ (pos 0 ∷ negsuc 9 ∷ [])
    -- variable, fixed, operating and discounted operating cost
    ∷ (pos 20 ∷ pos 20 ∷ []) ∷ (pos 14 ∷ pos 10 ∷ []) ∷ (pos 34 ∷ pos 30 ∷ []) ∷ (pos 34 ∷ pos 30 ∷ [])
    -- emissions and their penalty
    ∷ [] ∷ [] ∷ [] ∷ [] ∷ []
    -- total discounted costs
    ∷ (pos 54 ∷ pos 20 ∷ []) ∷ (pos 54 ∷ pos 20 ∷ []) ∷ (pos 74 ∷ [])
    -- annual and model period's activity
    ∷ (pos 10 ∷ pos 10 ∷ []) ∷ (pos 20 ∷ [])
    -- reserve margin
    ∷ [] ∷ []
    -- ProductionByTechnologyAnnual, the renewable target, UseByTechnologyAnnual
    ∷ (pos 10 ∷ pos 10 ∷ []) ∷ [] ∷ [] ∷ []
    -- emissions
    ∷ [] ∷ [] ∷ []

-- the plan of such a table
abbrev yearly : List (List ℤ) → Var → ℤ
yearly table v = tabled (λ i. i.year) table v

meets_below_zero : meets_all 6 two_years 1 (yearly builds_less_than_none) ≡ true
unfolding discounted capital_factor root_from half_year_root operating_factor salvage_fraction
meets_below_zero = refl

not_below_zero : Feasible 6 two_years 1 (yearly builds_less_than_none) → ⊥
not_below_zero plan = let sign : pos 0 ≤ℤ negsuc 3 = plan.signs (new_capacity 0 0 1) refl refl in absurd (omega (arith, ints, sign))

-- ---- an equation that isn't met

-- the best plan with an activity of 9
abbrev too_little : Var → ℤ
too_little v = if nat_eq v.kind RATE_OF_ACTIVITY then pos 9 else best 1 v

breaks_one : meets_all 6 base 1 too_little ≡ false
unfolding discounted capital_factor root_from half_year_root operating_factor salvage_fraction
breaks_one = refl

not_met : Feasible 6 base 1 too_little → ⊥
not_met plan = true≢false (sym (each_met 6 base 1 too_little (instances base) plan.equations) ∙ breaks_one)
