-- The base example with a life of two years and a rate of the technology's own of 0.1: its best plan under either profile and at both scales, what it
-- costs, and the plans of one profile and one scale, which break CC1 of another.
use Rattle.named_equations.proofs.Common.{◌≡◌, ℕ, ◌+◌, ◌-◌, ◌*◌, ◌^◌, ℤ, pos, true, List, [], ◌∷◌, refl, Some, codes, slice_index_or, annuity, capital_factor, discounted, half_year_root, operating_factor, recovery_factor, root_from, salvage_fraction, DISCOUNT_RATE_IDV, OPERATIONAL_LIFE, Data, Default, Var, CC1, cost, annuity_of, recovery_factor_of}
use Rattle.named_equations.proofs.BaseFile.{base_sets, data_of, default, second_of, whole}
use Rattle.named_equations.proofs.Tables.{meets_all, first_broken}

-- ---- data

abbrev life_and_rate : List Default
life_and_rate = default OPERATIONAL_LIFE (whole 2) ∷ default DISCOUNT_RATE_IDV (pos 100000000) ∷ []

-- under profile 1, to which the rate doesn't belong
abbrev at_once : Data
at_once = data_of (base_sets (codes "2020" ∷ [])) [] life_and_rate

-- under profile 2
abbrev over_its_life : Data
over_its_life = second_of (base_sets (codes "2020" ∷ [])) [] life_and_rate

-- ---- factors

recovered_at_six_places : recovery_factor_of 6 over_its_life 0 0 ≡ pos 523809
unfolding discounted recovery_factor
recovered_at_six_places = refl

recovered_at_nine_places : recovery_factor_of 9 over_its_life 0 0 ≡ pos 523809523
unfolding discounted recovery_factor
recovered_at_nine_places = refl

-- the region's rate is 0
annuity_at_six_places : annuity_of 6 over_its_life 0 0 ≡ pos 2000000
unfolding annuity
annuity_at_six_places = refl

annuity_at_nine_places : annuity_of 9 over_its_life 0 0 ≡ pos 2000000000
unfolding annuity
annuity_at_nine_places = refl

-- ---- plans

-- the values by kind over q, at this investment: activity and capacity 10, running costs of 3 for each, and half of the price of 50 left at the end
abbrev values : ℕ → ℕ → List ℕ
values q investment =
    -- RateOfActivity, NewCapacity, Trade
    (10 * q) ∷ (10 * q) ∷ 0
    -- RateOfDemand, AccumulatedNewCapacity, TotalCapacityAnnual, RateOfTotalActivity
    ∷ (10 * q) ∷ (10 * q) ∷ (10 * q) ∷ (10 * q)
    -- rates of production and of use
    ∷ (10 * q) ∷ (10 * q) ∷ (10 * q) ∷ 0 ∷ 0 ∷ 0
    -- Production, Use, Demand, ProductionAnnual, UseAnnual, TradeAnnual
    ∷ (10 * q) ∷ 0 ∷ (10 * q) ∷ (10 * q) ∷ 0 ∷ 0
    -- ProductionByTechnology, UseByTechnology, TotalAnnualTechnologyActivityByMode
    ∷ (10 * q) ∷ 0 ∷ (10 * q)
    -- CapitalInvestment and SalvageValue, each with its discounted value
    ∷ investment ∷ investment ∷ (25 * q) ∷ (25 * q)
    -- variable, fixed, operating and discounted operating cost
    ∷ (20 * q) ∷ (10 * q) ∷ (30 * q) ∷ (30 * q)
    -- emissions and their penalty
    ∷ 0 ∷ 0 ∷ 0 ∷ 0 ∷ 0
    -- total discounted costs
    ∷ (investment + 5 * q) ∷ (investment + 5 * q) ∷ (investment + 5 * q)
    -- annual and model period's activity
    ∷ (10 * q) ∷ (10 * q)
    -- reserve margin
    ∷ 0 ∷ 0
    -- ProductionByTechnologyAnnual, the renewable target, UseByTechnologyAnnual
    ∷ (10 * q) ∷ 0 ∷ 0 ∷ 0
    -- emissions
    ∷ 0 ∷ 0 ∷ []

abbrev plan : ℕ → ℕ → Var → ℤ
plan q investment v = pos (slice_index_or (values q investment) (v.kind - 1) 0)

-- 50 at once
meets_at_once : meets_all 6 at_once 1 (plan 1 50) ≡ true
unfolding annuity discounted capital_factor recovery_factor root_from half_year_root operating_factor salvage_fraction
meets_at_once = refl

costs_at_once : cost at_once (plan 1 50) ≡ pos 55
costs_at_once = refl

-- 50 times 0.523809 times 2
meets_over_its_life : meets_all 6 over_its_life (10 ^ 4) (plan (10 ^ 4) 523809) ≡ true
unfolding annuity discounted capital_factor recovery_factor root_from half_year_root operating_factor salvage_fraction
meets_over_its_life = refl

costs_over_its_life : cost over_its_life (plan (10 ^ 4) 523809) ≡ pos 573809
costs_over_its_life = refl

-- 50 times 0.523809523 times 2
meets_at_nine_places : meets_all 9 over_its_life (10 ^ 7) (plan (10 ^ 7) 523809523) ≡ true
unfolding annuity discounted capital_factor recovery_factor root_from half_year_root operating_factor salvage_fraction
meets_at_nine_places = refl

costs_at_nine_places : cost over_its_life (plan (10 ^ 7) 523809523) ≡ pos 573809523
costs_at_nine_places = refl

-- ---- near misses: each plan breaks the investment of the others

at_once_over_its_life : first_broken 6 over_its_life 1 (plan 1 50) ≡ Some CC1
unfolding annuity discounted capital_factor recovery_factor root_from half_year_root operating_factor salvage_fraction
at_once_over_its_life = refl

over_its_life_at_once : first_broken 6 at_once (10 ^ 4) (plan (10 ^ 4) 523809) ≡ Some CC1
unfolding annuity discounted capital_factor recovery_factor root_from half_year_root operating_factor salvage_fraction
over_its_life_at_once = refl

six_places_at_nine : first_broken 9 over_its_life (10 ^ 4) (plan (10 ^ 4) 523809) ≡ Some CC1
unfolding annuity discounted capital_factor recovery_factor root_from half_year_root operating_factor salvage_fraction
six_places_at_nine = refl

nine_places_at_six : first_broken 6 over_its_life (10 ^ 7) (plan (10 ^ 7) 523809523) ≡ Some CC1
unfolding annuity discounted capital_factor recovery_factor root_from half_year_root operating_factor salvage_fraction
nine_places_at_six = refl

-- without the annuity, as if the investment were due in one year
without_annuity : first_broken 6 over_its_life (10 ^ 5) (plan (10 ^ 5) 2619045) ≡ Some CC1
unfolding annuity discounted capital_factor recovery_factor root_from half_year_root operating_factor salvage_fraction
without_annuity = refl
