-- Each variable has the kind of its name, and its subscripts at their places.
use Rattle.named_equations.proofs.Common.{◌≡◌, ℕ, ◌+◌, List, [], ◌∷◌, map, refl, codes, if◌then◌else◌, range_with_len, Index, Var, word_of_kind, kind_has, index, variable, rate_of_activity, new_capacity, trade, rate_of_demand, accumulated_new_capacity, total_capacity_annual, rate_of_total_activity, rate_of_production_by_technology_by_mode, rate_of_production_by_technology, rate_of_production, rate_of_use_by_technology_by_mode, rate_of_use_by_technology, rate_of_use, production, use_of_fuel, demand, production_annual, use_annual, trade_annual, production_by_technology, use_by_technology, total_annual_technology_activity_by_mode, capital_investment, discounted_capital_investment, salvage_value, discounted_salvage_value, annual_variable_operating_cost, annual_fixed_operating_cost, operating_cost, discounted_operating_cost, annual_technology_emission_by_mode, annual_technology_emission, annual_technology_emission_penalty_by_emission, annual_technology_emissions_penalty, discounted_technology_emissions_penalty, total_discounted_cost_by_technology, total_discounted_cost, model_period_cost_by_region, total_technology_annual_activity, total_technology_model_period_activity, total_capacity_in_reserve_margin, demand_needing_reserve_margin, production_by_technology_annual, total_re_production_annual, re_total_production_of_target_fuel_annual, use_by_technology_annual, annual_emissions, model_period_emissions}

-- the variables' names, each with the variable at the region 1, the other region 2, the timeslice 3, the technology 4, the fuel 5, the emission 6, the
-- mode 7 and the year 8, of which it takes its own
abbrev named : List (List ℕ × Var)
named =
    (codes "RateOfActivity", rate_of_activity 1 3 4 7 8)
    ∷ (codes "NewCapacity", new_capacity 1 4 8)
    ∷ (codes "Trade", trade 1 2 3 5 8)
    ∷ (codes "RateOfDemand", rate_of_demand 1 3 5 8)
    ∷ (codes "AccumulatedNewCapacity", accumulated_new_capacity 1 4 8)
    ∷ (codes "TotalCapacityAnnual", total_capacity_annual 1 4 8)
    ∷ (codes "RateOfTotalActivity", rate_of_total_activity 1 3 4 8)
    ∷ (codes "RateOfProductionByTechnologyByMode", rate_of_production_by_technology_by_mode 1 3 4 5 7 8)
    ∷ (codes "RateOfProductionByTechnology", rate_of_production_by_technology 1 3 4 5 8)
    ∷ (codes "RateOfProduction", rate_of_production 1 3 5 8)
    ∷ (codes "RateOfUseByTechnologyByMode", rate_of_use_by_technology_by_mode 1 3 4 5 7 8)
    ∷ (codes "RateOfUseByTechnology", rate_of_use_by_technology 1 3 4 5 8)
    ∷ (codes "RateOfUse", rate_of_use 1 3 5 8)
    ∷ (codes "Production", production 1 3 5 8)
    ∷ (codes "Use", use_of_fuel 1 3 5 8)
    ∷ (codes "Demand", demand 1 3 5 8)
    ∷ (codes "ProductionAnnual", production_annual 1 5 8)
    ∷ (codes "UseAnnual", use_annual 1 5 8)
    ∷ (codes "TradeAnnual", trade_annual 1 2 5 8)
    ∷ (codes "ProductionByTechnology", production_by_technology 1 3 4 5 8)
    ∷ (codes "UseByTechnology", use_by_technology 1 3 4 5 8)
    ∷ (codes "TotalAnnualTechnologyActivityByMode", total_annual_technology_activity_by_mode 1 4 7 8)
    ∷ (codes "CapitalInvestment", capital_investment 1 4 8)
    ∷ (codes "DiscountedCapitalInvestment", discounted_capital_investment 1 4 8)
    ∷ (codes "SalvageValue", salvage_value 1 4 8)
    ∷ (codes "DiscountedSalvageValue", discounted_salvage_value 1 4 8)
    ∷ (codes "AnnualVariableOperatingCost", annual_variable_operating_cost 1 4 8)
    ∷ (codes "AnnualFixedOperatingCost", annual_fixed_operating_cost 1 4 8)
    ∷ (codes "OperatingCost", operating_cost 1 4 8)
    ∷ (codes "DiscountedOperatingCost", discounted_operating_cost 1 4 8)
    ∷ (codes "AnnualTechnologyEmissionByMode", annual_technology_emission_by_mode 1 4 6 7 8)
    ∷ (codes "AnnualTechnologyEmission", annual_technology_emission 1 4 6 8)
    ∷ (codes "AnnualTechnologyEmissionPenaltyByEmission", annual_technology_emission_penalty_by_emission 1 4 6 8)
    ∷ (codes "AnnualTechnologyEmissionsPenalty", annual_technology_emissions_penalty 1 4 8)
    ∷ (codes "DiscountedTechnologyEmissionsPenalty", discounted_technology_emissions_penalty 1 4 8)
    ∷ (codes "TotalDiscountedCostByTechnology", total_discounted_cost_by_technology 1 4 8)
    ∷ (codes "TotalDiscountedCost", total_discounted_cost 1 8)
    ∷ (codes "ModelPeriodCostByRegion", model_period_cost_by_region 1)
    ∷ (codes "TotalTechnologyAnnualActivity", total_technology_annual_activity 1 4 8)
    ∷ (codes "TotalTechnologyModelPeriodActivity", total_technology_model_period_activity 1 4)
    ∷ (codes "TotalCapacityInReserveMargin", total_capacity_in_reserve_margin 1 8)
    ∷ (codes "DemandNeedingReserveMargin", demand_needing_reserve_margin 1 3 8)
    ∷ (codes "ProductionByTechnologyAnnual", production_by_technology_annual 1 4 5 8)
    ∷ (codes "TotalREProductionAnnual", total_re_production_annual 1 8)
    ∷ (codes "RETotalProductionOfTargetFuelAnnual", re_total_production_of_target_fuel_annual 1 8)
    ∷ (codes "UseByTechnologyAnnual", use_by_technology_annual 1 4 5 8)
    ∷ (codes "AnnualEmissions", annual_emissions 1 6 8)
    ∷ (codes "ModelPeriodEmissions", model_period_emissions 1 6)
    ∷ []

-- the subscript at a place, counted from 1, where the kind has it, else 0
abbrev own : ℕ → ℕ → ℕ
own kind place = if kind_has kind place then place + 1 else 0

-- the index of these subscripts that a kind has
abbrev own_index : ℕ → Index
own_index kind = index (own kind 0) (own kind 1) (own kind 2) (own kind 3) (own kind 4) (own kind 5) (own kind 6) (own kind 7)

all_named : named ≡ map (λ kind. (word_of_kind kind, variable kind (own_index kind))) (range_with_len 1 48)
all_named = refl
