-- A realistic example: one region, six technologies, four fuels, four timeslices and some years, with a penalty on an emission.
use Rattle.std.specs.Prelude.{ℕ, ◌+◌, ◌*◌, ℤ, pos, false, List, [], ◌∷◌, ◌++◌, codes, map, slice_index_or}
use Rattle.named_equations.proofs.Common.{flat_map, range_with_len, Data, Given}
use Rattle.named_equations.proofs.BaseFile.{whole, minus_one, given, sets_of, defaults_from}

-- ---- names

abbrev pub mine : List ℕ
mine = codes "MINE"

abbrev pub import : List ℕ
import = codes "IMPORT"

abbrev pub ppcoal : List ℕ
ppcoal = codes "PPCOAL"

abbrev pub ppgas : List ℕ
ppgas = codes "PPGAS"

abbrev pub wind : List ℕ
wind = codes "WIND"

abbrev pub boiler : List ℕ
boiler = codes "BOILER"

abbrev pub coal : List ℕ
coal = codes "COAL"

abbrev pub gas : List ℕ
gas = codes "GAS"

abbrev pub elc : List ℕ
elc = codes "ELC"

abbrev pub heat : List ℕ
heat = codes "HEAT"

abbrev pub co2 : List ℕ
co2 = codes "CO2"

abbrev pub s1 : List ℕ
s1 = codes "S1"

abbrev pub s2 : List ℕ
s2 = codes "S2"

abbrev pub s3 : List ℕ
s3 = codes "S3"

abbrev pub s4 : List ℕ
s4 = codes "S4"

abbrev pub mode_1 : List ℕ
mode_1 = codes "1"

-- the year 2020 + k, of the first five
abbrev pub year_2020_and : ℕ → List ℕ
year_2020_and k = slice_index_or (codes "2020" ∷ codes "2021" ∷ codes "2022" ∷ codes "2023" ∷ codes "2024" ∷ []) k []

-- ---- values

-- the value of a parameter at region R1, these members and year 2020 + k
abbrev pub at : ℕ → List (List ℕ) → ℕ → ℤ → Given
at param members k value = given param (codes "R1" ∷ members ++ year_2020_and k ∷ []) value

-- the values of year 2020 + k
abbrev pub values_of_year : ℕ → List Given
values_of_year k =
    -- SpecifiedAnnualDemand
    at 5 (elc ∷ []) k (whole (40 + 4 * k))
    -- SpecifiedDemandProfile
    ∷ at 6 (elc ∷ s1 ∷ []) k (pos 200000000)
    ∷ at 6 (elc ∷ s2 ∷ []) k (pos 300000000)
    ∷ at 6 (elc ∷ s3 ∷ []) k (pos 300000000)
    ∷ at 6 (elc ∷ s4 ∷ []) k (pos 200000000)
    -- AccumulatedAnnualDemand
    ∷ at 7 (heat ∷ []) k (whole 10)
    -- CapacityFactor
    ∷ at 9 (wind ∷ s1 ∷ []) k (pos 200000000)
    ∷ at 9 (wind ∷ s2 ∷ []) k (pos 400000000)
    ∷ at 9 (wind ∷ s3 ∷ []) k (pos 300000000)
    ∷ at 9 (wind ∷ s4 ∷ []) k (pos 300000000)
    -- AvailabilityFactor
    ∷ at 10 (ppcoal ∷ []) k (pos 900000000)
    -- ResidualCapacity
    ∷ at 12 (mine ∷ []) k (whole 10000)
    ∷ at 12 (import ∷ []) k (whole 10000)
    -- InputActivityRatio
    ∷ at 13 (ppcoal ∷ coal ∷ mode_1 ∷ []) k (pos 2500000000)
    ∷ at 13 (ppgas ∷ gas ∷ mode_1 ∷ []) k (whole 2)
    ∷ at 13 (boiler ∷ gas ∷ mode_1 ∷ []) k (pos 1250000000)
    -- OutputActivityRatio
    ∷ at 14 (mine ∷ coal ∷ mode_1 ∷ []) k (whole 1)
    ∷ at 14 (import ∷ gas ∷ mode_1 ∷ []) k (whole 1)
    ∷ at 14 (ppcoal ∷ elc ∷ mode_1 ∷ []) k (whole 1)
    ∷ at 14 (ppgas ∷ elc ∷ mode_1 ∷ []) k (whole 1)
    ∷ at 14 (wind ∷ elc ∷ mode_1 ∷ []) k (whole 1)
    ∷ at 14 (boiler ∷ heat ∷ mode_1 ∷ []) k (whole 1)
    -- CapitalCost
    ∷ at 15 (ppcoal ∷ []) k (whole 50)
    ∷ at 15 (ppgas ∷ []) k (whole 20)
    ∷ at 15 (wind ∷ []) k (whole 60)
    ∷ at 15 (boiler ∷ []) k (whole 5)
    -- VariableCost
    ∷ at 16 (mine ∷ mode_1 ∷ []) k (whole 2)
    ∷ at 16 (import ∷ mode_1 ∷ []) k (whole 5)
    ∷ at 16 (ppcoal ∷ mode_1 ∷ []) k (whole 1)
    ∷ at 16 (ppgas ∷ mode_1 ∷ []) k (whole 1)
    -- FixedCost
    ∷ at 17 (ppcoal ∷ []) k (whole 2)
    ∷ at 17 (ppgas ∷ []) k (whole 1)
    ∷ at 17 (wind ∷ []) k (whole 2)
    ∷ at 17 (boiler ∷ []) k (whole 1)
    -- TotalAnnualMaxCapacity
    ∷ at 19 (wind ∷ []) k (whole 10)
    -- EmissionActivityRatio
    ∷ at 33 (ppcoal ∷ co2 ∷ mode_1 ∷ []) k (pos 900000000)
    ∷ at 33 (ppgas ∷ co2 ∷ mode_1 ∷ []) k (pos 400000000)
    ∷ at 33 (boiler ∷ co2 ∷ mode_1 ∷ []) k (pos 250000000)
    -- EmissionsPenalty
    ∷ at 34 (co2 ∷ []) k (whole 2)
    ∷ []

-- the defaults of the used parameters, from number 1, in billionths
abbrev pub made_values : List ℤ
made_values =
    -- YearSplit 0.25, DiscountRate 0.05, DepreciationMethod 1, TradeRoute 0
    pos 250000000 ∷ pos 50000000 ∷ whole 1 ∷ whole 0
    -- SpecifiedAnnualDemand, SpecifiedDemandProfile, AccumulatedAnnualDemand 0
    ∷ whole 0 ∷ whole 0 ∷ whole 0
    -- CapacityToActivityUnit 1, CapacityFactor 1, AvailabilityFactor 1, OperationalLife 20, ResidualCapacity 0
    ∷ whole 1 ∷ whole 1 ∷ whole 1 ∷ whole 20 ∷ whole 0
    -- InputActivityRatio, OutputActivityRatio 0
    ∷ whole 0 ∷ whole 0
    -- CapitalCost, VariableCost, FixedCost, CapacityOfOneTechnologyUnit 0
    ∷ whole 0 ∷ whole 0 ∷ whole 0 ∷ whole 0
    -- the limits of capacity and of new capacity, greatest and least
    ∷ minus_one ∷ whole 0 ∷ minus_one ∷ whole 0
    -- the limits of annual activity, and of the model period's activity, greatest and least
    ∷ minus_one ∷ whole 0 ∷ whole 0 ∷ whole 0
    -- ReserveMarginTagTechnology, ReserveMarginTagFuel, ReserveMargin, RETagTechnology, RETagFuel, REMinProductionTarget: 0
    ∷ whole 0 ∷ whole 0 ∷ whole 0 ∷ whole 0 ∷ whole 0 ∷ whole 0
    -- EmissionActivityRatio, EmissionsPenalty, AnnualExogenousEmission 0 and AnnualEmissionLimit -1
    ∷ whole 0 ∷ whole 0 ∷ whole 0 ∷ minus_one
    -- ModelPeriodExogenousEmission 0 and ModelPeriodEmissionLimit -1
    ∷ whole 0 ∷ minus_one ∷ []

-- the example with so many years, from 2020 on
abbrev pub made : ℕ → Data
made years = record {
  sets = sets_of (codes "R1" ∷ []) (mine ∷ import ∷ ppcoal ∷ ppgas ∷ wind ∷ boiler ∷ []) (coal ∷ gas ∷ elc ∷ heat ∷ []) (co2 ∷ [])
      (mode_1 ∷ []) (s1 ∷ s2 ∷ s3 ∷ s4 ∷ []) (map (λ k. year_2020_and k) (range_with_len 0 years));
  given = flat_map values_of_year (range_with_len 0 years);
  defaults = defaults_from 1 made_values;
  second = false;
}
