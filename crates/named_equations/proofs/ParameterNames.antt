-- Each parameter takes the value that the data give under its name, at members of the sets of its subscripts in their order.
use Rattle.named_equations.proofs.Common.{◌≡◌, ℕ, ◌-◌, ℤ, pos, true, List, [], ◌∷◌, filter, map, refl, codes, slice_index_or, range_with_len, PARAM_COUNT, Data, Given, is_used, param_at, param_word, subscript_sets, year_split, discount_rate, depreciation_method, trade_route, specified_annual_demand, specified_demand_profile, accumulated_annual_demand, capacity_to_activity_unit, capacity_factor, availability_factor, operational_life, residual_capacity, input_activity_ratio, output_activity_ratio, capital_cost, variable_cost, fixed_cost, capacity_of_one_technology_unit, total_annual_max_capacity, total_annual_min_capacity, total_annual_max_capacity_investment, total_annual_min_capacity_investment, total_technology_annual_activity_upper_limit, total_technology_annual_activity_lower_limit, total_technology_model_period_activity_upper_limit, total_technology_model_period_activity_lower_limit, reserve_margin_tag_technology, reserve_margin_tag_fuel, reserve_margin, re_tag_technology, re_tag_fuel, re_min_production_target, emission_activity_ratio, emissions_penalty, annual_exogenous_emission, annual_emission_limit, model_period_exogenous_emission, model_period_emission_limit, discount_rate_idv}
use Rattle.named_equations.proofs.BaseFile.{given, sets_of}

-- the second member of each set, by the number of the set
abbrev second_members : List (List ℕ)
second_members = codes "B" ∷ codes "U" ∷ codes "G" ∷ codes "CH4" ∷ codes "2" ∷ codes "N" ∷ codes "2021" ∷ []

-- a value of the parameter of this number, at the second members of the sets of its subscripts: the number itself
abbrev numbered : ℕ → Given
numbered param = given param (map (λ k. slice_index_or second_members (k - 1) []) (subscript_sets param)) (pos param)

-- the numbers of the parameters that are used under profile 2
abbrev used_numbers : List ℕ
used_numbers = filter (λ n. is_used true (param_at n).used) (range_with_len 1 PARAM_COUNT)

-- two members of each set, and no values but these, under profile 2
abbrev two_of_each : Data
two_of_each = record {
  sets = sets_of (codes "A" ∷ codes "B" ∷ []) (codes "T" ∷ codes "U" ∷ []) (codes "F" ∷ codes "G" ∷ []) (codes "CO2" ∷ codes "CH4" ∷ [])
      (codes "1" ∷ codes "2" ∷ []) (codes "D" ∷ codes "N" ∷ []) (codes "2020" ∷ codes "2021" ∷ []);
  given = map numbered used_numbers;
  defaults = [];
  second = true;
}

-- the parameters' names, each with its value where all subscripts are i
abbrev named : ℕ → List (List ℕ × ℤ)
named i =
    (codes "YearSplit", year_split two_of_each i i)
    ∷ (codes "DiscountRate", discount_rate two_of_each i)
    ∷ (codes "DepreciationMethod", depreciation_method two_of_each i)
    ∷ (codes "TradeRoute", trade_route two_of_each i i i i)
    ∷ (codes "SpecifiedAnnualDemand", specified_annual_demand two_of_each i i i)
    ∷ (codes "SpecifiedDemandProfile", specified_demand_profile two_of_each i i i i)
    ∷ (codes "AccumulatedAnnualDemand", accumulated_annual_demand two_of_each i i i)
    ∷ (codes "CapacityToActivityUnit", capacity_to_activity_unit two_of_each i i)
    ∷ (codes "CapacityFactor", capacity_factor two_of_each i i i i)
    ∷ (codes "AvailabilityFactor", availability_factor two_of_each i i i)
    ∷ (codes "OperationalLife", operational_life two_of_each i i)
    ∷ (codes "ResidualCapacity", residual_capacity two_of_each i i i)
    ∷ (codes "InputActivityRatio", input_activity_ratio two_of_each i i i i i)
    ∷ (codes "OutputActivityRatio", output_activity_ratio two_of_each i i i i i)
    ∷ (codes "CapitalCost", capital_cost two_of_each i i i)
    ∷ (codes "VariableCost", variable_cost two_of_each i i i i)
    ∷ (codes "FixedCost", fixed_cost two_of_each i i i)
    ∷ (codes "CapacityOfOneTechnologyUnit", capacity_of_one_technology_unit two_of_each i i i)
    ∷ (codes "TotalAnnualMaxCapacity", total_annual_max_capacity two_of_each i i i)
    ∷ (codes "TotalAnnualMinCapacity", total_annual_min_capacity two_of_each i i i)
    ∷ (codes "TotalAnnualMaxCapacityInvestment", total_annual_max_capacity_investment two_of_each i i i)
    ∷ (codes "TotalAnnualMinCapacityInvestment", total_annual_min_capacity_investment two_of_each i i i)
    ∷ (codes "TotalTechnologyAnnualActivityUpperLimit", total_technology_annual_activity_upper_limit two_of_each i i i)
    ∷ (codes "TotalTechnologyAnnualActivityLowerLimit", total_technology_annual_activity_lower_limit two_of_each i i i)
    ∷ (codes "TotalTechnologyModelPeriodActivityUpperLimit", total_technology_model_period_activity_upper_limit two_of_each i i)
    ∷ (codes "TotalTechnologyModelPeriodActivityLowerLimit", total_technology_model_period_activity_lower_limit two_of_each i i)
    ∷ (codes "ReserveMarginTagTechnology", reserve_margin_tag_technology two_of_each i i i)
    ∷ (codes "ReserveMarginTagFuel", reserve_margin_tag_fuel two_of_each i i i)
    ∷ (codes "ReserveMargin", reserve_margin two_of_each i i)
    ∷ (codes "RETagTechnology", re_tag_technology two_of_each i i i)
    ∷ (codes "RETagFuel", re_tag_fuel two_of_each i i i)
    ∷ (codes "REMinProductionTarget", re_min_production_target two_of_each i i)
    ∷ (codes "EmissionActivityRatio", emission_activity_ratio two_of_each i i i i i)
    ∷ (codes "EmissionsPenalty", emissions_penalty two_of_each i i i)
    ∷ (codes "AnnualExogenousEmission", annual_exogenous_emission two_of_each i i i)
    ∷ (codes "AnnualEmissionLimit", annual_emission_limit two_of_each i i i)
    ∷ (codes "ModelPeriodExogenousEmission", model_period_exogenous_emission two_of_each i i)
    ∷ (codes "ModelPeriodEmissionLimit", model_period_emission_limit two_of_each i i)
    ∷ (codes "DiscountRateIdv", discount_rate_idv two_of_each i i)
    ∷ []

all_named : named 1 ≡ map (λ param. (param_word param, pos param)) used_numbers
all_named = refl

-- where nothing is given the value counts as 0
none_given : named 0 ≡ map (λ param. (param_word param, pos 0)) used_numbers
none_given = refl
