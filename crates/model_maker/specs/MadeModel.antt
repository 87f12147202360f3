-- The data file that is made of a number n: a small energy system of one region over the n - 2 years from 2020 on. A mine and an import feed
-- power plants of coal and gas and a boiler, with wind beside them; there is a demand for electricity in four timeslices, which grows, one for
-- heat, and a penalty on emissions.
use Rattle.std.specs.Prelude.{ℕ, List, [], ◌∷◌, codes}

-- ---- what the file says

-- the number that a record has in each year: the demand for electricity, which is 40 in 2020 and grows by 4 each year, or the same in all
pub data Value : Type 0 where
  Growing : Value
  Same : List ℕ → Value

-- a parameter: its name, its default, and for its records of one year the members that stand before the year, and the value
pub record Parameter : Type 0 where
  pub name : List ℕ
  pub default_value : List ℕ
  pub records : List (List ℕ × Value)

-- a parameter with a default and no record
abbrev pub plain : List ℕ → List ℕ → Parameter
plain name default_value = record { name = name; default_value = default_value; records = [] }

-- one with records
abbrev pub given : List ℕ → List ℕ → List (List ℕ × Value) → Parameter
given name default_value records = record { name = name; default_value = default_value; records = records }

-- a record that is the same in all years
abbrev pub same : List ℕ → List ℕ → List ℕ × Value
same members value = (members, Same value)

-- the parameters, in the order of their numbers
abbrev pub parameters : List Parameter
parameters =
    plain (codes "YearSplit") (codes "0.25")
    ∷ plain (codes "DiscountRate") (codes "0.05")
    ∷ plain (codes "DepreciationMethod") (codes "1")
    ∷ plain (codes "TradeRoute") (codes "0")
    ∷ given (codes "SpecifiedAnnualDemand") (codes "0") ((codes "R1 ELC", Growing) ∷ [])
    ∷ given (codes "SpecifiedDemandProfile") (codes "0")
    (same (codes "R1 ELC S1") (codes "0.2") ∷ same (codes "R1 ELC S2") (codes "0.3") ∷ same (codes "R1 ELC S3") (codes "0.3") ∷ same (codes "R1 ELC S4") (codes "0.2") ∷ [])
    ∷ given (codes "AccumulatedAnnualDemand") (codes "0") (same (codes "R1 HEAT") (codes "10") ∷ [])
    ∷ plain (codes "CapacityToActivityUnit") (codes "1")
    ∷ given (codes "CapacityFactor") (codes "1")
    (same (codes "R1 WIND S1") (codes "0.2") ∷ same (codes "R1 WIND S2") (codes "0.4") ∷ same (codes "R1 WIND S3") (codes "0.3") ∷ same (codes "R1 WIND S4") (codes "0.3") ∷ [])
    ∷ given (codes "AvailabilityFactor") (codes "1") (same (codes "R1 PPCOAL") (codes "0.9") ∷ [])
    ∷ plain (codes "OperationalLife") (codes "20")
    ∷ given (codes "ResidualCapacity") (codes "0") (same (codes "R1 MINE") (codes "10000") ∷ same (codes "R1 IMPORT") (codes "10000") ∷ [])
    ∷ given (codes "InputActivityRatio") (codes "0")
    (same (codes "R1 PPCOAL COAL 1") (codes "2.5") ∷ same (codes "R1 PPGAS GAS 1") (codes "2") ∷ same (codes "R1 BOILER GAS 1") (codes "1.25") ∷ [])
    ∷ given (codes "OutputActivityRatio") (codes "0")
    (same (codes "R1 MINE COAL 1") (codes "1") ∷ same (codes "R1 IMPORT GAS 1") (codes "1") ∷ same (codes "R1 PPCOAL ELC 1") (codes "1")
    ∷ same (codes "R1 PPGAS ELC 1") (codes "1") ∷ same (codes "R1 WIND ELC 1") (codes "1") ∷ same (codes "R1 BOILER HEAT 1") (codes "1") ∷ [])
    ∷ given (codes "CapitalCost") (codes "0")
    (same (codes "R1 PPCOAL") (codes "50") ∷ same (codes "R1 PPGAS") (codes "20") ∷ same (codes "R1 WIND") (codes "60") ∷ same (codes "R1 BOILER") (codes "5") ∷ [])
    ∷ given (codes "VariableCost") (codes "0")
    (same (codes "R1 MINE 1") (codes "2") ∷ same (codes "R1 IMPORT 1") (codes "5") ∷ same (codes "R1 PPCOAL 1") (codes "1") ∷ same (codes "R1 PPGAS 1") (codes "1") ∷ [])
    ∷ given (codes "FixedCost") (codes "0")
    (same (codes "R1 PPCOAL") (codes "2") ∷ same (codes "R1 PPGAS") (codes "1") ∷ same (codes "R1 WIND") (codes "2") ∷ same (codes "R1 BOILER") (codes "1") ∷ [])
    ∷ plain (codes "CapacityOfOneTechnologyUnit") (codes "0")
    ∷ given (codes "TotalAnnualMaxCapacity") (codes "-1") (same (codes "R1 WIND") (codes "10") ∷ [])
    ∷ plain (codes "TotalAnnualMinCapacity") (codes "0")
    ∷ plain (codes "TotalAnnualMaxCapacityInvestment") (codes "-1")
    ∷ plain (codes "TotalAnnualMinCapacityInvestment") (codes "0")
    ∷ plain (codes "TotalTechnologyAnnualActivityUpperLimit") (codes "-1")
    ∷ plain (codes "TotalTechnologyAnnualActivityLowerLimit") (codes "0")
    ∷ plain (codes "TotalTechnologyModelPeriodActivityUpperLimit") (codes "0")
    ∷ plain (codes "TotalTechnologyModelPeriodActivityLowerLimit") (codes "0")
    ∷ plain (codes "ReserveMarginTagTechnology") (codes "0")
    ∷ plain (codes "ReserveMarginTagFuel") (codes "0")
    ∷ plain (codes "ReserveMargin") (codes "0")
    ∷ plain (codes "RETagTechnology") (codes "0")
    ∷ plain (codes "RETagFuel") (codes "0")
    ∷ plain (codes "REMinProductionTarget") (codes "0")
    ∷ given (codes "EmissionActivityRatio") (codes "0")
    (same (codes "R1 PPCOAL CO2 1") (codes "0.9") ∷ same (codes "R1 PPGAS CO2 1") (codes "0.4") ∷ same (codes "R1 BOILER CO2 1") (codes "0.25") ∷ [])
    ∷ given (codes "EmissionsPenalty") (codes "0") (same (codes "R1 CO2") (codes "2") ∷ [])
    ∷ plain (codes "AnnualExogenousEmission") (codes "0")
    ∷ plain (codes "AnnualEmissionLimit") (codes "-1")
    ∷ plain (codes "ModelPeriodExogenousEmission") (codes "0")
    ∷ plain (codes "ModelPeriodEmissionLimit") (codes "-1")
    ∷ []
