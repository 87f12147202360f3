-- The best plan of the base example meets its equations and costs 80; with any value raised by a billionth it breaks one.
use Rattle.named_equations.proofs.Common.{◌≡◌, ℕ, ◌+◌, ◌-◌, ◌*◌, ◌^◌, ℤ, pos, true, List, [], ◌∷◌, map, refl, Some, nat_eq, if◌then◌else◌, slice_index_or, Var, discounted, capital_factor, root_from, half_year_root, operating_factor, salvage_fraction, all_variables, cost}
use Rattle.named_equations.proofs.BaseFile.{base}
use Rattle.named_equations.proofs.Tables.{meets_all, first_broken}

-- the values of the plan by kind, in whole units: activity and capacity 10, at an investment of 5 and running costs of 3 for each
abbrev pub best_values : List ℕ
best_values =
    -- RateOfActivity, NewCapacity, Trade
    10 ∷ 10 ∷ 0
    -- RateOfDemand, AccumulatedNewCapacity, TotalCapacityAnnual, RateOfTotalActivity
    ∷ 10 ∷ 10 ∷ 10 ∷ 10
    -- rates of production and of use
    ∷ 10 ∷ 10 ∷ 10 ∷ 0 ∷ 0 ∷ 0
    -- Production, Use, Demand, ProductionAnnual, UseAnnual, TradeAnnual
    ∷ 10 ∷ 0 ∷ 10 ∷ 10 ∷ 0 ∷ 0
    -- ProductionByTechnology, UseByTechnology, TotalAnnualTechnologyActivityByMode
    ∷ 10 ∷ 0 ∷ 10
    -- CapitalInvestment and SalvageValue, each with its discounted value
    ∷ 50 ∷ 50 ∷ 0 ∷ 0
    -- variable, fixed, operating and discounted operating cost
    ∷ 20 ∷ 10 ∷ 30 ∷ 30
    -- emissions and their penalty
    ∷ 0 ∷ 0 ∷ 0 ∷ 0 ∷ 0
    -- total discounted costs
    ∷ 80 ∷ 80 ∷ 80
    -- annual and model period's activity
    ∷ 10 ∷ 10
    -- reserve margin
    ∷ 0 ∷ 0
    -- ProductionByTechnologyAnnual, the renewable target, UseByTechnologyAnnual
    ∷ 10 ∷ 0 ∷ 0 ∷ 0
    -- emissions
    ∷ 0 ∷ 0 ∷ []

-- the plan over q
abbrev pub best : ℕ → Var → ℤ
best q v = pos (slice_index_or best_values (v.kind - 1) 0 * q)

pub best_meets_all : meets_all 6 base 1 (best 1) ≡ true
unfolding discounted capital_factor root_from half_year_root operating_factor salvage_fraction
best_meets_all = refl

-- the same plan in billionths
best_meets_all_in_billionths : meets_all 6 base (10 ^ 9) (best (10 ^ 9)) ≡ true
unfolding discounted capital_factor root_from half_year_root operating_factor salvage_fraction
best_meets_all_in_billionths = refl

costs_eighty : cost base (best 1) ≡ pos 80
costs_eighty = refl

-- the plan in billionths, with the variables of this kind raised by one billionth
abbrev pub raised : ℕ → Var → ℤ
raised kind v = if nat_eq v.kind kind then pos (slice_index_or best_values (v.kind - 1) 0 * 10 ^ 9 + 1) else best (10 ^ 9) v

-- whichever value is raised, the first equation that breaks is the one that defines it; for RateOfActivity it is CAa3, and for NewCapacity CAa1
near_misses : map (λ v. first_broken 6 base (10 ^ 9) (raised v.kind)) (all_variables base) ≡ map Some
    -- RateOfActivity, NewCapacity, Trade
    (4 ∷ 2 ∷ 16
    -- RateOfDemand, AccumulatedNewCapacity, TotalCapacityAnnual, RateOfTotalActivity
    ∷ 1 ∷ 2 ∷ 3 ∷ 4
    -- rates of production by technology by mode and by technology, RateOfProduction, RateOfUse
    ∷ 7 ∷ 8 ∷ 9 ∷ 12
    -- Production, Use, Demand, ProductionAnnual, UseAnnual, TradeAnnual
    ∷ 13 ∷ 14 ∷ 15 ∷ 18 ∷ 19 ∷ 20
    -- ProductionByTechnology, TotalAnnualTechnologyActivityByMode
    ∷ 22 ∷ 24
    -- CapitalInvestment, DiscountedCapitalInvestment, SalvageValue, DiscountedSalvageValue
    ∷ 25 ∷ 26 ∷ 29 ∷ 30
    -- variable, fixed, operating and discounted operating cost
    ∷ 31 ∷ 32 ∷ 33 ∷ 34
    -- AnnualTechnologyEmissionsPenalty, DiscountedTechnologyEmissionsPenalty
    ∷ 38 ∷ 39
    -- TotalDiscountedCostByTechnology, TotalDiscountedCost, ModelPeriodCostByRegion
    ∷ 40 ∷ 41 ∷ 42
    -- TotalTechnologyAnnualActivity, TotalTechnologyModelPeriodActivity
    ∷ 47 ∷ 50
    -- TotalCapacityInReserveMargin, DemandNeedingReserveMargin
    ∷ 53 ∷ 54
    -- ProductionByTechnologyAnnual, TotalREProductionAnnual, RETotalProductionOfTargetFuelAnnual
    ∷ 56 ∷ 57 ∷ 58 ∷ [])
unfolding discounted capital_factor root_from half_year_root operating_factor salvage_fraction
near_misses = refl
