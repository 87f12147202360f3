-- Which equations define the variables of each kind, with the names of both: the table that comes of the table of equations. The variables of a kind
-- exist where one of these has an instance, and those of the first three kinds at every index.
use Rattle.named_equations.proofs.Common.{◌≡◌, ℕ, List, [], ◌∷◌, map, filter, refl, codes, word_of_kind, definers, exists_everywhere, kind_numbers}
use Rattle.row_core.specs.Equations.{word_of_equation}

-- the name of a kind, and the names of the equations that define its variables
abbrev defined_by : ℕ → List ℕ × List (List ℕ)
defined_by kind = (word_of_kind kind, map word_of_equation (definers kind))

what_defines : map defined_by kind_numbers ≡
    (codes "RateOfActivity", [])
    ∷ (codes "NewCapacity", [])
    ∷ (codes "Trade", codes "EBa10" ∷ [])
    ∷ (codes "RateOfDemand", codes "EQ_SpecifiedDemand" ∷ [])
    ∷ (codes "AccumulatedNewCapacity", codes "CAa1" ∷ [])
    ∷ (codes "TotalCapacityAnnual", codes "CAa2" ∷ [])
    ∷ (codes "RateOfTotalActivity", codes "CAa3" ∷ [])
    ∷ (codes "RateOfProductionByTechnologyByMode", codes "EBa1" ∷ [])
    ∷ (codes "RateOfProductionByTechnology", codes "EBa2" ∷ [])
    ∷ (codes "RateOfProduction", codes "EBa3" ∷ [])
    ∷ (codes "RateOfUseByTechnologyByMode", codes "EBa4" ∷ [])
    ∷ (codes "RateOfUseByTechnology", codes "EBa5" ∷ [])
    ∷ (codes "RateOfUse", codes "EBa6" ∷ [])
    ∷ (codes "Production", codes "EBa7" ∷ [])
    ∷ (codes "Use", codes "EBa8" ∷ [])
    ∷ (codes "Demand", codes "EBa9" ∷ [])
    ∷ (codes "ProductionAnnual", codes "EBb1" ∷ [])
    ∷ (codes "UseAnnual", codes "EBb2" ∷ [])
    ∷ (codes "TradeAnnual", codes "EBb3" ∷ [])
    ∷ (codes "ProductionByTechnology", codes "Acc1" ∷ [])
    ∷ (codes "UseByTechnology", codes "Acc2" ∷ [])
    ∷ (codes "TotalAnnualTechnologyActivityByMode", codes "Acc3" ∷ [])
    ∷ (codes "CapitalInvestment", codes "CC1" ∷ [])
    ∷ (codes "DiscountedCapitalInvestment", codes "CC2" ∷ [])
    ∷ (codes "SalvageValue", codes "SV1" ∷ codes "SV2" ∷ codes "SV3" ∷ [])
    ∷ (codes "DiscountedSalvageValue", codes "SV4" ∷ [])
    ∷ (codes "AnnualVariableOperatingCost", codes "OC1" ∷ [])
    ∷ (codes "AnnualFixedOperatingCost", codes "OC2" ∷ [])
    ∷ (codes "OperatingCost", codes "OC3" ∷ [])
    ∷ (codes "DiscountedOperatingCost", codes "OC4" ∷ [])
    ∷ (codes "AnnualTechnologyEmissionByMode", codes "E1" ∷ [])
    ∷ (codes "AnnualTechnologyEmission", codes "E2" ∷ [])
    ∷ (codes "AnnualTechnologyEmissionPenaltyByEmission", codes "E3" ∷ [])
    ∷ (codes "AnnualTechnologyEmissionsPenalty", codes "E4" ∷ [])
    ∷ (codes "DiscountedTechnologyEmissionsPenalty", codes "E5" ∷ [])
    ∷ (codes "TotalDiscountedCostByTechnology", codes "TDC1" ∷ [])
    ∷ (codes "TotalDiscountedCost", codes "TDC2" ∷ [])
    ∷ (codes "ModelPeriodCostByRegion", codes "Acc4" ∷ [])
    ∷ (codes "TotalTechnologyAnnualActivity", codes "AAC1" ∷ [])
    ∷ (codes "TotalTechnologyModelPeriodActivity", codes "TAC1" ∷ [])
    ∷ (codes "TotalCapacityInReserveMargin", codes "RM1" ∷ [])
    ∷ (codes "DemandNeedingReserveMargin", codes "RM2" ∷ [])
    ∷ (codes "ProductionByTechnologyAnnual", codes "RE1" ∷ [])
    ∷ (codes "TotalREProductionAnnual", codes "RE2" ∷ [])
    ∷ (codes "RETotalProductionOfTargetFuelAnnual", codes "RE3" ∷ [])
    ∷ (codes "UseByTechnologyAnnual", codes "RE5" ∷ [])
    ∷ (codes "AnnualEmissions", codes "E6" ∷ [])
    ∷ (codes "ModelPeriodEmissions", codes "E7" ∷ [])
    ∷ []
what_defines = refl

everywhere : map word_of_kind (filter exists_everywhere kind_numbers) ≡ codes "RateOfActivity" ∷ codes "NewCapacity" ∷ codes "Trade" ∷ []
everywhere = refl
