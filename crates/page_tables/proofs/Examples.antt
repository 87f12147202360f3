-- Which tables a page is drawn from, computed.
use Rattle.std.proofs.Common.{◌≡◌, [], ◌∷◌, refl, map}
use Rattle.std.specs.Prelude.{codes}
use Rattle.row_core.specs.Kinds.{word_of_kind}
use Rattle.page_tables.specs.PageTables.{data_word, price_word}
use Rattle.page_tables.specs.declared.lists.TheConstants.{DIRECTION_KINDS, PAGE_DATA, PAGE_KINDS, PAGE_PRICES}

of_data : map data_word PAGE_DATA
    ≡ codes "sets" ∷ codes "worth" ∷ codes "TradeRoute" ∷ codes "AccumulatedAnnualDemand" ∷ codes "CapacityToActivityUnit" ∷ codes "InputActivityRatio" ∷ codes "OutputActivityRatio"
    ∷ codes "EmissionActivityRatio" ∷ codes "AnnualExogenousEmission" ∷ codes "AnnualEmissionLimit" ∷ codes "ModelPeriodExogenousEmission" ∷ codes "ModelPeriodEmissionLimit" ∷ []
of_data = refl

of_plan : map word_of_kind PAGE_KINDS
    ≡ codes "NewCapacity" ∷ codes "Trade" ∷ codes "TotalCapacityAnnual" ∷ codes "Demand" ∷ codes "TradeAnnual" ∷ codes "ProductionByTechnology" ∷ codes "UseByTechnology"
    ∷ codes "DiscountedCapitalInvestment" ∷ codes "DiscountedSalvageValue" ∷ codes "DiscountedOperatingCost" ∷ codes "AnnualTechnologyEmission" ∷ codes "DiscountedTechnologyEmissionsPenalty"
    ∷ codes "TotalDiscountedCost" ∷ codes "TotalTechnologyAnnualActivity" ∷ codes "ProductionByTechnologyAnnual" ∷ codes "UseByTechnologyAnnual" ∷ codes "AnnualEmissions" ∷ []
of_plan = refl

of_prices : map price_word PAGE_PRICES ≡ codes "limits" ∷ codes "prices" ∷ []
of_prices = refl

of_direction : map word_of_kind DIRECTION_KINDS ≡ codes "RateOfActivity" ∷ codes "NewCapacity" ∷ codes "Trade" ∷ []
of_direction = refl
