-- The definitions, computed: the whole file that is made of 3, and parts of that of 7. The texts come from another program.
use Rattle.std.proofs.Common.{◌≡◌, false, refl}
use Rattle.std.specs.Prelude.{ℕ, List, [], ◌∷◌, codes}
use Rattle.std.specs.Fmt.{digits}
use Rattle.std.specs.List.{flat_map}
use Rattle.std.specs.Str.{bytes_eq}
use Rattle.model_maker.specs.MadeModel.{Growing, given, same}
use Rattle.model_maker.specs.MadeText.{line, made_text, parameter_text, year_set, record_line}

-- the years of 7
years_of_7 : year_set 5 ≡ codes "set YEAR := 2020 2021 2022 2023 2024 ;\n"
unfolding digits
years_of_7 = refl

-- a demand that grows by 4 a year
growing : parameter_text 5 (given (codes "SpecifiedAnnualDemand") (codes "0") ((codes "R1 ELC", Growing) ∷ [])) ≡ codes "param SpecifiedAnnualDemand default 0 :=\nR1 ELC 2020 40\nR1 ELC 2021 44\nR1 ELC 2022 48\nR1 ELC 2023 52\nR1 ELC 2024 56\n;\n"
unfolding digits
growing = refl

-- all records of a year before those of the next
by_years : parameter_text 2 (given (codes "CapitalCost") (codes "0") (same (codes "R1 WIND") (codes "60") ∷ same (codes "R1 BOILER") (codes "5") ∷ []))
    ≡ codes "param CapitalCost default 0 :=\nR1 WIND 2020 60\nR1 BOILER 2020 5\nR1 WIND 2021 60\nR1 BOILER 2021 5\n;\n"
unfolding digits
by_years = refl

-- the last year of the longest file, 2139, has a demand of 516
last_demand : record_line 119 (codes "R1 ELC", Growing) ≡ codes "R1 ELC 2139 516\n"
unfolding digits
last_demand = refl

-- the whole file of 3
whole : made_text 3 ≡ flat_map line (
    codes "data;" ∷ codes "set REGION := R1 ;" ∷ codes "set TECHNOLOGY := MINE IMPORT PPCOAL PPGAS WIND BOILER ;"
    ∷ codes "set FUEL := COAL GAS ELC HEAT ;" ∷ codes "set EMISSION := CO2 ;" ∷ codes "set MODE_OF_OPERATION := 1 ;"
    ∷ codes "set TIMESLICE := S1 S2 S3 S4 ;" ∷ codes "set YEAR := 2020 ;" ∷ codes "set STORAGE := ;" ∷ codes "set SEASON := ;"
    ∷ codes "set DAYTYPE := ;" ∷ codes "set DAILYTIMEBRACKET := ;" ∷ codes "param YearSplit default 0.25 :=" ∷ codes ";"
    ∷ codes "param DiscountRate default 0.05 :=" ∷ codes ";" ∷ codes "param DepreciationMethod default 1 :=" ∷ codes ";"
    ∷ codes "param TradeRoute default 0 :=" ∷ codes ";" ∷ codes "param SpecifiedAnnualDemand default 0 :=" ∷ codes "R1 ELC 2020 40" ∷ codes ";"
    ∷ codes "param SpecifiedDemandProfile default 0 :=" ∷ codes "R1 ELC S1 2020 0.2" ∷ codes "R1 ELC S2 2020 0.3" ∷ codes "R1 ELC S3 2020 0.3"
    ∷ codes "R1 ELC S4 2020 0.2" ∷ codes ";" ∷ codes "param AccumulatedAnnualDemand default 0 :=" ∷ codes "R1 HEAT 2020 10" ∷ codes ";"
    ∷ codes "param CapacityToActivityUnit default 1 :=" ∷ codes ";" ∷ codes "param CapacityFactor default 1 :=" ∷ codes "R1 WIND S1 2020 0.2"
    ∷ codes "R1 WIND S2 2020 0.4" ∷ codes "R1 WIND S3 2020 0.3" ∷ codes "R1 WIND S4 2020 0.3" ∷ codes ";"
    ∷ codes "param AvailabilityFactor default 1 :=" ∷ codes "R1 PPCOAL 2020 0.9" ∷ codes ";" ∷ codes "param OperationalLife default 20 :=" ∷ codes ";"
    ∷ codes "param ResidualCapacity default 0 :=" ∷ codes "R1 MINE 2020 10000" ∷ codes "R1 IMPORT 2020 10000" ∷ codes ";"
    ∷ codes "param InputActivityRatio default 0 :=" ∷ codes "R1 PPCOAL COAL 1 2020 2.5" ∷ codes "R1 PPGAS GAS 1 2020 2"
    ∷ codes "R1 BOILER GAS 1 2020 1.25" ∷ codes ";" ∷ codes "param OutputActivityRatio default 0 :=" ∷ codes "R1 MINE COAL 1 2020 1"
    ∷ codes "R1 IMPORT GAS 1 2020 1" ∷ codes "R1 PPCOAL ELC 1 2020 1" ∷ codes "R1 PPGAS ELC 1 2020 1" ∷ codes "R1 WIND ELC 1 2020 1"
    ∷ codes "R1 BOILER HEAT 1 2020 1" ∷ codes ";" ∷ codes "param CapitalCost default 0 :=" ∷ codes "R1 PPCOAL 2020 50" ∷ codes "R1 PPGAS 2020 20"
    ∷ codes "R1 WIND 2020 60" ∷ codes "R1 BOILER 2020 5" ∷ codes ";" ∷ codes "param VariableCost default 0 :=" ∷ codes "R1 MINE 1 2020 2"
    ∷ codes "R1 IMPORT 1 2020 5" ∷ codes "R1 PPCOAL 1 2020 1" ∷ codes "R1 PPGAS 1 2020 1" ∷ codes ";" ∷ codes "param FixedCost default 0 :="
    ∷ codes "R1 PPCOAL 2020 2" ∷ codes "R1 PPGAS 2020 1" ∷ codes "R1 WIND 2020 2" ∷ codes "R1 BOILER 2020 1" ∷ codes ";"
    ∷ codes "param CapacityOfOneTechnologyUnit default 0 :=" ∷ codes ";" ∷ codes "param TotalAnnualMaxCapacity default -1 :="
    ∷ codes "R1 WIND 2020 10" ∷ codes ";" ∷ codes "param TotalAnnualMinCapacity default 0 :=" ∷ codes ";"
    ∷ codes "param TotalAnnualMaxCapacityInvestment default -1 :=" ∷ codes ";" ∷ codes "param TotalAnnualMinCapacityInvestment default 0 :="
    ∷ codes ";" ∷ codes "param TotalTechnologyAnnualActivityUpperLimit default -1 :=" ∷ codes ";"
    ∷ codes "param TotalTechnologyAnnualActivityLowerLimit default 0 :=" ∷ codes ";"
    ∷ codes "param TotalTechnologyModelPeriodActivityUpperLimit default 0 :=" ∷ codes ";"
    ∷ codes "param TotalTechnologyModelPeriodActivityLowerLimit default 0 :=" ∷ codes ";" ∷ codes "param ReserveMarginTagTechnology default 0 :="
    ∷ codes ";" ∷ codes "param ReserveMarginTagFuel default 0 :=" ∷ codes ";" ∷ codes "param ReserveMargin default 0 :=" ∷ codes ";"
    ∷ codes "param RETagTechnology default 0 :=" ∷ codes ";" ∷ codes "param RETagFuel default 0 :=" ∷ codes ";"
    ∷ codes "param REMinProductionTarget default 0 :=" ∷ codes ";" ∷ codes "param EmissionActivityRatio default 0 :="
    ∷ codes "R1 PPCOAL CO2 1 2020 0.9" ∷ codes "R1 PPGAS CO2 1 2020 0.4" ∷ codes "R1 BOILER CO2 1 2020 0.25" ∷ codes ";"
    ∷ codes "param EmissionsPenalty default 0 :=" ∷ codes "R1 CO2 2020 2" ∷ codes ";" ∷ codes "param AnnualExogenousEmission default 0 :=" ∷ codes ";"
    ∷ codes "param AnnualEmissionLimit default -1 :=" ∷ codes ";" ∷ codes "param ModelPeriodExogenousEmission default 0 :=" ∷ codes ";"
    ∷ codes "param ModelPeriodEmissionLimit default -1 :=" ∷ codes ";" ∷ codes "end;" ∷ [])
unfolding digits
whole = refl

-- one number in it that is another
abbrev near : List ℕ
near = codes "R1 ELC 2020 44\n"

first_demand : bytes_eq (record_line 0 (codes "R1 ELC", Growing)) near ≡ false
unfolding digits
first_demand = refl
