-- The variables of the long code, by name. Each takes its own subscripts, in the order r, rr, l, t, f, e, m, y, as positions in their sets.
use Rattle.std.specs.Prelude.{ℕ}
use Rattle.row_core.specs.declared.Index.{Index}
use Rattle.row_core.specs.declared.Var.{Var}
use Rattle.row_core.specs.declared.kind_numbers.TheConstants.{RATE_OF_ACTIVITY, NEW_CAPACITY, TRADE, RATE_OF_DEMAND, ACCUMULATED_NEW_CAPACITY, TOTAL_CAPACITY_ANNUAL, RATE_OF_TOTAL_ACTIVITY, RATE_OF_PRODUCTION_BY_TECHNOLOGY_BY_MODE, RATE_OF_PRODUCTION_BY_TECHNOLOGY, RATE_OF_PRODUCTION, RATE_OF_USE_BY_TECHNOLOGY_BY_MODE, RATE_OF_USE_BY_TECHNOLOGY, RATE_OF_USE, PRODUCTION, USE, DEMAND, PRODUCTION_ANNUAL, USE_ANNUAL, TRADE_ANNUAL, PRODUCTION_BY_TECHNOLOGY, USE_BY_TECHNOLOGY, TOTAL_ANNUAL_TECHNOLOGY_ACTIVITY_BY_MODE, CAPITAL_INVESTMENT, DISCOUNTED_CAPITAL_INVESTMENT, SALVAGE_VALUE, DISCOUNTED_SALVAGE_VALUE, ANNUAL_VARIABLE_OPERATING_COST, ANNUAL_FIXED_OPERATING_COST, OPERATING_COST, DISCOUNTED_OPERATING_COST, ANNUAL_TECHNOLOGY_EMISSION_BY_MODE, ANNUAL_TECHNOLOGY_EMISSION, ANNUAL_TECHNOLOGY_EMISSION_PENALTY_BY_EMISSION, ANNUAL_TECHNOLOGY_EMISSIONS_PENALTY, DISCOUNTED_TECHNOLOGY_EMISSIONS_PENALTY, TOTAL_DISCOUNTED_COST_BY_TECHNOLOGY, TOTAL_DISCOUNTED_COST, MODEL_PERIOD_COST_BY_REGION, TOTAL_TECHNOLOGY_ANNUAL_ACTIVITY, TOTAL_TECHNOLOGY_MODEL_PERIOD_ACTIVITY, TOTAL_CAPACITY_IN_RESERVE_MARGIN, DEMAND_NEEDING_RESERVE_MARGIN, PRODUCTION_BY_TECHNOLOGY_ANNUAL, TOTAL_RE_PRODUCTION_ANNUAL, RE_TOTAL_PRODUCTION_OF_TARGET_FUEL_ANNUAL, USE_BY_TECHNOLOGY_ANNUAL, ANNUAL_EMISSIONS, MODEL_PERIOD_EMISSIONS}
use Rattle.named_equations.specs.Indices.{at_r, at_rrrlfy, at_rrrfy, at_rltfmy, at_rltfy, at_rltmy, at_rlty, at_rlfy, at_rly, at_rt, at_rtfy, at_rtemy, at_rtey, at_rtmy, at_rty, at_rfy, at_re, at_rey, at_ry}

-- the variable of this kind, at this index
abbrev pub variable : ℕ → Index → Var
variable kind index = record { kind = kind; index = index }

-- RateOfActivity[r,l,t,m,y]
abbrev pub rate_of_activity : ℕ → ℕ → ℕ → ℕ → ℕ → Var
rate_of_activity r l t m y = variable RATE_OF_ACTIVITY (at_rltmy r l t m y)

-- NewCapacity[r,t,y]
abbrev pub new_capacity : ℕ → ℕ → ℕ → Var
new_capacity r t y = variable NEW_CAPACITY (at_rty r t y)

-- Trade[r,rr,l,f,y]
abbrev pub trade : ℕ → ℕ → ℕ → ℕ → ℕ → Var
trade r rr l f y = variable TRADE (at_rrrlfy r rr l f y)

-- RateOfDemand[r,l,f,y]
abbrev pub rate_of_demand : ℕ → ℕ → ℕ → ℕ → Var
rate_of_demand r l f y = variable RATE_OF_DEMAND (at_rlfy r l f y)

-- AccumulatedNewCapacity[r,t,y]
abbrev pub accumulated_new_capacity : ℕ → ℕ → ℕ → Var
accumulated_new_capacity r t y = variable ACCUMULATED_NEW_CAPACITY (at_rty r t y)

-- TotalCapacityAnnual[r,t,y]
abbrev pub total_capacity_annual : ℕ → ℕ → ℕ → Var
total_capacity_annual r t y = variable TOTAL_CAPACITY_ANNUAL (at_rty r t y)

-- RateOfTotalActivity[r,l,t,y]
abbrev pub rate_of_total_activity : ℕ → ℕ → ℕ → ℕ → Var
rate_of_total_activity r l t y = variable RATE_OF_TOTAL_ACTIVITY (at_rlty r l t y)

-- RateOfProductionByTechnologyByMode[r,l,t,f,m,y]
abbrev pub rate_of_production_by_technology_by_mode : ℕ → ℕ → ℕ → ℕ → ℕ → ℕ → Var
rate_of_production_by_technology_by_mode r l t f m y = variable RATE_OF_PRODUCTION_BY_TECHNOLOGY_BY_MODE (at_rltfmy r l t f m y)

-- RateOfProductionByTechnology[r,l,t,f,y]
abbrev pub rate_of_production_by_technology : ℕ → ℕ → ℕ → ℕ → ℕ → Var
rate_of_production_by_technology r l t f y = variable RATE_OF_PRODUCTION_BY_TECHNOLOGY (at_rltfy r l t f y)

-- RateOfProduction[r,l,f,y]
abbrev pub rate_of_production : ℕ → ℕ → ℕ → ℕ → Var
rate_of_production r l f y = variable RATE_OF_PRODUCTION (at_rlfy r l f y)

-- RateOfUseByTechnologyByMode[r,l,t,f,m,y]
abbrev pub rate_of_use_by_technology_by_mode : ℕ → ℕ → ℕ → ℕ → ℕ → ℕ → Var
rate_of_use_by_technology_by_mode r l t f m y = variable RATE_OF_USE_BY_TECHNOLOGY_BY_MODE (at_rltfmy r l t f m y)

-- RateOfUseByTechnology[r,l,t,f,y]
abbrev pub rate_of_use_by_technology : ℕ → ℕ → ℕ → ℕ → ℕ → Var
rate_of_use_by_technology r l t f y = variable RATE_OF_USE_BY_TECHNOLOGY (at_rltfy r l t f y)

-- RateOfUse[r,l,f,y]
abbrev pub rate_of_use : ℕ → ℕ → ℕ → ℕ → Var
rate_of_use r l f y = variable RATE_OF_USE (at_rlfy r l f y)

-- Production[r,l,f,y]
abbrev pub production : ℕ → ℕ → ℕ → ℕ → Var
production r l f y = variable PRODUCTION (at_rlfy r l f y)

-- Use[r,l,f,y]
abbrev pub use_of_fuel : ℕ → ℕ → ℕ → ℕ → Var
use_of_fuel r l f y = variable USE (at_rlfy r l f y)

-- Demand[r,l,f,y]
abbrev pub demand : ℕ → ℕ → ℕ → ℕ → Var
demand r l f y = variable DEMAND (at_rlfy r l f y)

-- ProductionAnnual[r,f,y]
abbrev pub production_annual : ℕ → ℕ → ℕ → Var
production_annual r f y = variable PRODUCTION_ANNUAL (at_rfy r f y)

-- UseAnnual[r,f,y]
abbrev pub use_annual : ℕ → ℕ → ℕ → Var
use_annual r f y = variable USE_ANNUAL (at_rfy r f y)

-- TradeAnnual[r,rr,f,y]
abbrev pub trade_annual : ℕ → ℕ → ℕ → ℕ → Var
trade_annual r rr f y = variable TRADE_ANNUAL (at_rrrfy r rr f y)

-- ProductionByTechnology[r,l,t,f,y]
abbrev pub production_by_technology : ℕ → ℕ → ℕ → ℕ → ℕ → Var
production_by_technology r l t f y = variable PRODUCTION_BY_TECHNOLOGY (at_rltfy r l t f y)

-- UseByTechnology[r,l,t,f,y]
abbrev pub use_by_technology : ℕ → ℕ → ℕ → ℕ → ℕ → Var
use_by_technology r l t f y = variable USE_BY_TECHNOLOGY (at_rltfy r l t f y)

-- TotalAnnualTechnologyActivityByMode[r,t,m,y]
abbrev pub total_annual_technology_activity_by_mode : ℕ → ℕ → ℕ → ℕ → Var
total_annual_technology_activity_by_mode r t m y = variable TOTAL_ANNUAL_TECHNOLOGY_ACTIVITY_BY_MODE (at_rtmy r t m y)

-- CapitalInvestment[r,t,y]
abbrev pub capital_investment : ℕ → ℕ → ℕ → Var
capital_investment r t y = variable CAPITAL_INVESTMENT (at_rty r t y)

-- DiscountedCapitalInvestment[r,t,y]
abbrev pub discounted_capital_investment : ℕ → ℕ → ℕ → Var
discounted_capital_investment r t y = variable DISCOUNTED_CAPITAL_INVESTMENT (at_rty r t y)

-- SalvageValue[r,t,y]
abbrev pub salvage_value : ℕ → ℕ → ℕ → Var
salvage_value r t y = variable SALVAGE_VALUE (at_rty r t y)

-- DiscountedSalvageValue[r,t,y]
abbrev pub discounted_salvage_value : ℕ → ℕ → ℕ → Var
discounted_salvage_value r t y = variable DISCOUNTED_SALVAGE_VALUE (at_rty r t y)

-- AnnualVariableOperatingCost[r,t,y]
abbrev pub annual_variable_operating_cost : ℕ → ℕ → ℕ → Var
annual_variable_operating_cost r t y = variable ANNUAL_VARIABLE_OPERATING_COST (at_rty r t y)

-- AnnualFixedOperatingCost[r,t,y]
abbrev pub annual_fixed_operating_cost : ℕ → ℕ → ℕ → Var
annual_fixed_operating_cost r t y = variable ANNUAL_FIXED_OPERATING_COST (at_rty r t y)

-- OperatingCost[r,t,y]
abbrev pub operating_cost : ℕ → ℕ → ℕ → Var
operating_cost r t y = variable OPERATING_COST (at_rty r t y)

-- DiscountedOperatingCost[r,t,y]
abbrev pub discounted_operating_cost : ℕ → ℕ → ℕ → Var
discounted_operating_cost r t y = variable DISCOUNTED_OPERATING_COST (at_rty r t y)

-- AnnualTechnologyEmissionByMode[r,t,e,m,y]
abbrev pub annual_technology_emission_by_mode : ℕ → ℕ → ℕ → ℕ → ℕ → Var
annual_technology_emission_by_mode r t e m y = variable ANNUAL_TECHNOLOGY_EMISSION_BY_MODE (at_rtemy r t e m y)

-- AnnualTechnologyEmission[r,t,e,y]
abbrev pub annual_technology_emission : ℕ → ℕ → ℕ → ℕ → Var
annual_technology_emission r t e y = variable ANNUAL_TECHNOLOGY_EMISSION (at_rtey r t e y)

-- AnnualTechnologyEmissionPenaltyByEmission[r,t,e,y]
abbrev pub annual_technology_emission_penalty_by_emission : ℕ → ℕ → ℕ → ℕ → Var
annual_technology_emission_penalty_by_emission r t e y = variable ANNUAL_TECHNOLOGY_EMISSION_PENALTY_BY_EMISSION (at_rtey r t e y)

-- AnnualTechnologyEmissionsPenalty[r,t,y]
abbrev pub annual_technology_emissions_penalty : ℕ → ℕ → ℕ → Var
annual_technology_emissions_penalty r t y = variable ANNUAL_TECHNOLOGY_EMISSIONS_PENALTY (at_rty r t y)

-- DiscountedTechnologyEmissionsPenalty[r,t,y]
abbrev pub discounted_technology_emissions_penalty : ℕ → ℕ → ℕ → Var
discounted_technology_emissions_penalty r t y = variable DISCOUNTED_TECHNOLOGY_EMISSIONS_PENALTY (at_rty r t y)

-- TotalDiscountedCostByTechnology[r,t,y]
abbrev pub total_discounted_cost_by_technology : ℕ → ℕ → ℕ → Var
total_discounted_cost_by_technology r t y = variable TOTAL_DISCOUNTED_COST_BY_TECHNOLOGY (at_rty r t y)

-- TotalDiscountedCost[r,y]
abbrev pub total_discounted_cost : ℕ → ℕ → Var
total_discounted_cost r y = variable TOTAL_DISCOUNTED_COST (at_ry r y)

-- ModelPeriodCostByRegion[r]
abbrev pub model_period_cost_by_region : ℕ → Var
model_period_cost_by_region r = variable MODEL_PERIOD_COST_BY_REGION (at_r r)

-- TotalTechnologyAnnualActivity[r,t,y]
abbrev pub total_technology_annual_activity : ℕ → ℕ → ℕ → Var
total_technology_annual_activity r t y = variable TOTAL_TECHNOLOGY_ANNUAL_ACTIVITY (at_rty r t y)

-- TotalTechnologyModelPeriodActivity[r,t]
abbrev pub total_technology_model_period_activity : ℕ → ℕ → Var
total_technology_model_period_activity r t = variable TOTAL_TECHNOLOGY_MODEL_PERIOD_ACTIVITY (at_rt r t)

-- TotalCapacityInReserveMargin[r,y]
abbrev pub total_capacity_in_reserve_margin : ℕ → ℕ → Var
total_capacity_in_reserve_margin r y = variable TOTAL_CAPACITY_IN_RESERVE_MARGIN (at_ry r y)

-- DemandNeedingReserveMargin[r,l,y]
abbrev pub demand_needing_reserve_margin : ℕ → ℕ → ℕ → Var
demand_needing_reserve_margin r l y = variable DEMAND_NEEDING_RESERVE_MARGIN (at_rly r l y)

-- ProductionByTechnologyAnnual[r,t,f,y]
abbrev pub production_by_technology_annual : ℕ → ℕ → ℕ → ℕ → Var
production_by_technology_annual r t f y = variable PRODUCTION_BY_TECHNOLOGY_ANNUAL (at_rtfy r t f y)

-- TotalREProductionAnnual[r,y]
abbrev pub total_re_production_annual : ℕ → ℕ → Var
total_re_production_annual r y = variable TOTAL_RE_PRODUCTION_ANNUAL (at_ry r y)

-- RETotalProductionOfTargetFuelAnnual[r,y]
abbrev pub re_total_production_of_target_fuel_annual : ℕ → ℕ → Var
re_total_production_of_target_fuel_annual r y = variable RE_TOTAL_PRODUCTION_OF_TARGET_FUEL_ANNUAL (at_ry r y)

-- UseByTechnologyAnnual[r,t,f,y]
abbrev pub use_by_technology_annual : ℕ → ℕ → ℕ → ℕ → Var
use_by_technology_annual r t f y = variable USE_BY_TECHNOLOGY_ANNUAL (at_rtfy r t f y)

-- AnnualEmissions[r,e,y]
abbrev pub annual_emissions : ℕ → ℕ → ℕ → Var
annual_emissions r e y = variable ANNUAL_EMISSIONS (at_rey r e y)

-- ModelPeriodEmissions[r,e]
abbrev pub model_period_emissions : ℕ → ℕ → Var
model_period_emissions r e = variable MODEL_PERIOD_EMISSIONS (at_re r e)
