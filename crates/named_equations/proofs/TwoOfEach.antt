-- Two members of each set, with a value of its own at each index, so that subscripts that change places, a lost factor or a wrong range of a sum
-- would show: every equation has an instance. The plan and the figures were worked out by a program of another kind, in exact fractions, from the
-- published statements.
use Rattle.named_equations.proofs.Common.{◌≡◌, ℕ, ◌+◌, ◌-◌, ◌*◌, ◌^◌, ℤ, pos, negsuc, ◌*ℤ◌, Bool, true, false, List, [], ◌∷◌, length, map, refl, codes, fold, slice_index_or, flat_map, list_all, enumerate_from, zip, Data, Given, indices_of, SetLists, Index, Var, discounted, capital_factor, root_from, half_year_root, operating_factor, salvage_fraction, instances_of, meets, cost}
use Rattle.row_core.specs.Subscripts.{r, rr, l, t, f, e, m, y}
use Rattle.named_equations.proofs.BaseFile.{given, sets_of}

-- ---- data

abbrev wide_sets : SetLists
wide_sets = sets_of (codes "A" ∷ codes "B" ∷ []) (codes "T" ∷ codes "U" ∷ []) (codes "F" ∷ codes "G" ∷ []) (codes "CO2" ∷ codes "CH4" ∷ [])
    (codes "1" ∷ codes "2" ∷ []) (codes "D" ∷ codes "N" ∷ []) (codes "2020" ∷ codes "2023" ∷ [])

-- the values of the parameters in tenths, from number 1, each in the order of its indices
abbrev tenths : List (List ℤ)
tenths =
    -- YearSplit
    (pos 3 ∷ pos 4 ∷ pos 7 ∷ pos 6 ∷ [])
    -- DiscountRate
    ∷ (pos 1 ∷ pos 0 ∷ [])
    -- DepreciationMethod
    ∷ (pos 10 ∷ pos 10 ∷ [])
    -- TradeRoute
    ∷ (pos 2 ∷ pos 9 ∷ pos 5 ∷ pos 1 ∷ pos 8 ∷ pos 4 ∷ pos 11 ∷ pos 7 ∷ pos 3 ∷ pos 10 ∷ pos 6 ∷ pos 2 ∷ pos 9 ∷ pos 5 ∷ pos 1 ∷ pos 8 ∷ [])
    -- SpecifiedAnnualDemand
    ∷ (pos 5 ∷ pos 1 ∷ pos 8 ∷ pos 4 ∷ pos 11 ∷ pos 7 ∷ pos 3 ∷ pos 10 ∷ [])
    -- SpecifiedDemandProfile
    ∷ (pos 8 ∷ pos 4 ∷ pos 11 ∷ pos 7 ∷ pos 3 ∷ pos 10 ∷ pos 6 ∷ pos 2 ∷ pos 9 ∷ pos 5 ∷ pos 1 ∷ pos 8 ∷ pos 4 ∷ pos 11 ∷ pos 7 ∷ pos 3 ∷ [])
    -- AccumulatedAnnualDemand
    ∷ (pos 11 ∷ pos 7 ∷ pos 3 ∷ pos 10 ∷ pos 6 ∷ pos 2 ∷ pos 9 ∷ pos 5 ∷ [])
    -- CapacityToActivityUnit
    ∷ (pos 3 ∷ pos 10 ∷ pos 6 ∷ pos 2 ∷ [])
    -- CapacityFactor
    ∷ (pos 6 ∷ pos 2 ∷ pos 9 ∷ pos 5 ∷ pos 1 ∷ pos 8 ∷ pos 4 ∷ pos 11 ∷ pos 7 ∷ pos 3 ∷ pos 10 ∷ pos 6 ∷ pos 2 ∷ pos 9 ∷ pos 5 ∷ pos 1 ∷ [])
    -- AvailabilityFactor
    ∷ (pos 9 ∷ pos 5 ∷ pos 1 ∷ pos 8 ∷ pos 4 ∷ pos 11 ∷ pos 7 ∷ pos 3 ∷ [])
    -- OperationalLife
    ∷ (pos 20 ∷ pos 40 ∷ pos 50 ∷ pos 30 ∷ [])
    -- ResidualCapacity
    ∷ (pos 4 ∷ pos 11 ∷ pos 7 ∷ pos 3 ∷ pos 10 ∷ pos 6 ∷ pos 2 ∷ pos 9 ∷ [])
    -- InputActivityRatio
    ∷ (pos 1 ∷ pos 0 ∷ pos 0 ∷ pos 4 ∷ pos 0 ∷ pos 0 ∷ pos 7 ∷ pos 0 ∷ pos 0 ∷ pos 3 ∷ pos 0 ∷ pos 0 ∷ pos 6 ∷ pos 0 ∷ pos 0 ∷ pos 2 ∷ pos 0 ∷ pos 0 ∷ pos 5 ∷ pos 0 ∷ pos 0 ∷ pos 1 ∷ pos 0 ∷ pos 0 ∷ pos 4 ∷ pos 0 ∷ pos 0 ∷ pos 7 ∷ pos 0 ∷ pos 0 ∷ pos 3 ∷ pos 0 ∷ [])
    -- OutputActivityRatio
    ∷ (pos 1 ∷ pos 0 ∷ pos 0 ∷ pos 4 ∷ pos 5 ∷ pos 6 ∷ pos 0 ∷ pos 0 ∷ pos 9 ∷ pos 1 ∷ pos 2 ∷ pos 0 ∷ pos 0 ∷ pos 5 ∷ pos 6 ∷ pos 7 ∷ pos 0 ∷ pos 0 ∷ pos 1 ∷ pos 2 ∷ pos 3 ∷ pos 0 ∷ pos 0 ∷ pos 6 ∷ pos 7 ∷ pos 8 ∷ pos 0 ∷ pos 0 ∷ pos 2 ∷ pos 3 ∷ pos 4 ∷ pos 0 ∷ [])
    -- CapitalCost
    ∷ (pos 2 ∷ pos 9 ∷ pos 5 ∷ pos 1 ∷ pos 8 ∷ pos 4 ∷ pos 11 ∷ pos 7 ∷ [])
    -- VariableCost
    ∷ (pos 5 ∷ pos 1 ∷ pos 8 ∷ pos 4 ∷ pos 11 ∷ pos 7 ∷ pos 3 ∷ pos 10 ∷ pos 6 ∷ pos 2 ∷ pos 9 ∷ pos 5 ∷ pos 1 ∷ pos 8 ∷ pos 4 ∷ pos 11 ∷ [])
    -- FixedCost
    ∷ (pos 8 ∷ pos 4 ∷ pos 11 ∷ pos 7 ∷ pos 3 ∷ pos 10 ∷ pos 6 ∷ pos 2 ∷ [])
    -- CapacityOfOneTechnologyUnit
    ∷ (pos 0 ∷ pos 0 ∷ pos 0 ∷ pos 0 ∷ pos 0 ∷ pos 0 ∷ pos 0 ∷ pos 0 ∷ [])
    -- TotalAnnualMaxCapacity
    ∷ (negsuc 9 ∷ pos 41 ∷ pos 42 ∷ negsuc 9 ∷ pos 44 ∷ pos 45 ∷ negsuc 9 ∷ pos 47 ∷ [])
    -- TotalAnnualMinCapacity
    ∷ (pos 3 ∷ pos 0 ∷ pos 5 ∷ pos 0 ∷ pos 7 ∷ pos 0 ∷ pos 9 ∷ pos 0 ∷ [])
    -- TotalAnnualMaxCapacityInvestment
    ∷ (negsuc 9 ∷ pos 41 ∷ pos 42 ∷ negsuc 9 ∷ pos 44 ∷ pos 45 ∷ negsuc 9 ∷ pos 47 ∷ [])
    -- TotalAnnualMinCapacityInvestment
    ∷ (pos 3 ∷ pos 0 ∷ pos 5 ∷ pos 0 ∷ pos 7 ∷ pos 0 ∷ pos 9 ∷ pos 0 ∷ [])
    -- TotalTechnologyAnnualActivityUpperLimit
    ∷ (negsuc 9 ∷ pos 41 ∷ pos 42 ∷ negsuc 9 ∷ pos 44 ∷ pos 45 ∷ negsuc 9 ∷ pos 47 ∷ [])
    -- TotalTechnologyAnnualActivityLowerLimit
    ∷ (pos 3 ∷ pos 0 ∷ pos 5 ∷ pos 0 ∷ pos 7 ∷ pos 0 ∷ pos 9 ∷ pos 0 ∷ [])
    -- TotalTechnologyModelPeriodActivityUpperLimit
    ∷ (pos 0 ∷ pos 70 ∷ negsuc 9 ∷ pos 90 ∷ [])
    -- TotalTechnologyModelPeriodActivityLowerLimit
    ∷ (pos 0 ∷ pos 5 ∷ pos 8 ∷ pos 0 ∷ [])
    -- ReserveMarginTagTechnology
    ∷ (pos 5 ∷ pos 1 ∷ pos 8 ∷ pos 4 ∷ pos 11 ∷ pos 7 ∷ pos 3 ∷ pos 10 ∷ [])
    -- ReserveMarginTagFuel
    ∷ (pos 8 ∷ pos 4 ∷ pos 11 ∷ pos 7 ∷ pos 3 ∷ pos 10 ∷ pos 6 ∷ pos 2 ∷ [])
    -- ReserveMargin
    ∷ (pos 11 ∷ pos 7 ∷ pos 3 ∷ pos 10 ∷ [])
    -- RETagTechnology
    ∷ (pos 3 ∷ pos 10 ∷ pos 6 ∷ pos 2 ∷ pos 9 ∷ pos 5 ∷ pos 1 ∷ pos 8 ∷ [])
    -- RETagFuel
    ∷ (pos 6 ∷ pos 2 ∷ pos 9 ∷ pos 5 ∷ pos 1 ∷ pos 8 ∷ pos 4 ∷ pos 11 ∷ [])
    -- REMinProductionTarget
    ∷ (pos 9 ∷ pos 5 ∷ pos 1 ∷ pos 8 ∷ [])
    -- EmissionActivityRatio
    ∷ (negsuc 1 ∷ pos 0 ∷ pos 0 ∷ pos 1 ∷ pos 2 ∷ pos 0 ∷ negsuc 1 ∷ negsuc 0 ∷ pos 0 ∷ pos 0 ∷ pos 2 ∷ pos 3 ∷ negsuc 1 ∷ pos 0 ∷ pos 0 ∷ pos 1 ∷ pos 2 ∷ pos 0 ∷ negsuc 1 ∷ negsuc 0 ∷ pos 0 ∷ pos 0 ∷ pos 2 ∷ pos 3 ∷ negsuc 1 ∷ pos 0 ∷ pos 0 ∷ pos 1 ∷ pos 2 ∷ pos 0 ∷ negsuc 1 ∷ negsuc 0 ∷ [])
    -- EmissionsPenalty
    ∷ (pos 4 ∷ pos 11 ∷ pos 7 ∷ pos 3 ∷ pos 10 ∷ pos 6 ∷ pos 2 ∷ pos 9 ∷ [])
    -- AnnualExogenousEmission
    ∷ (pos 7 ∷ pos 3 ∷ pos 10 ∷ pos 6 ∷ pos 2 ∷ pos 9 ∷ pos 5 ∷ pos 1 ∷ [])
    -- AnnualEmissionLimit
    ∷ (pos 50 ∷ negsuc 9 ∷ pos 52 ∷ pos 53 ∷ negsuc 9 ∷ pos 55 ∷ pos 56 ∷ negsuc 9 ∷ [])
    -- ModelPeriodExogenousEmission
    ∷ (pos 2 ∷ pos 9 ∷ pos 5 ∷ pos 1 ∷ [])
    -- ModelPeriodEmissionLimit
    ∷ (pos 50 ∷ negsuc 9 ∷ pos 52 ∷ pos 53 ∷ [])
    ∷ []

-- the values of a parameter, with its number
abbrev values_of : ℕ × List ℤ → List Given
values_of numbered = map (λ at. given numbered.0 at.0 (at.1 *ℤ pos (10 ^ 8))) (zip (indices_of wide_sets numbered.0) numbered.1)

abbrev pub wide : Data
wide = record { sets = wide_sets; given = flat_map values_of (enumerate_from 1 tenths); defaults = []; second = false }

-- ---- plan

-- the common denominator
abbrev q : ℕ
q = 210000000000000

-- for each kind its subscripts, and its numbers in the order of these subscripts
abbrev numbers : List (List ℕ × List ℤ)
numbers =
    -- RateOfActivity
    (r ∷ l ∷ t ∷ m ∷ y ∷ [], pos 210000000000000 ∷ pos 1260000000000000 ∷ pos 2310000000000000 ∷ pos 630000000000000 ∷ pos 1680000000000000 ∷ pos 2730000000000000 ∷ pos 1050000000000000 ∷ pos 2100000000000000 ∷ pos 420000000000000 ∷ pos 1470000000000000 ∷ pos 2520000000000000 ∷ pos 840000000000000 ∷ pos 1890000000000000 ∷ pos 210000000000000 ∷ pos 1260000000000000 ∷ pos 2310000000000000 ∷ pos 630000000000000 ∷ pos 1680000000000000 ∷ pos 2730000000000000 ∷ pos 1050000000000000 ∷ pos 2100000000000000 ∷ pos 420000000000000 ∷ pos 1470000000000000 ∷ pos 2520000000000000 ∷ pos 840000000000000 ∷ pos 1890000000000000 ∷ pos 210000000000000 ∷ pos 1260000000000000 ∷ pos 2310000000000000 ∷ pos 630000000000000 ∷ pos 1680000000000000 ∷ pos 2730000000000000 ∷ [])
    -- NewCapacity
    ∷ (r ∷ t ∷ y ∷ [], pos 420000000000000 ∷ pos 1050000000000000 ∷ pos 1680000000000000 ∷ pos 840000000000000 ∷ pos 1470000000000000 ∷ pos 630000000000000 ∷ pos 1260000000000000 ∷ pos 420000000000000 ∷ [])
    -- Trade
    ∷ (r ∷ rr ∷ l ∷ f ∷ y ∷ [], pos 0 ∷ pos 0 ∷ pos 0 ∷ pos 0 ∷ pos 0 ∷ pos 0 ∷ pos 0 ∷ pos 0 ∷ pos 1890000000000000 ∷ pos 2100000000000000 ∷ pos 2310000000000000 ∷ pos 2520000000000000 ∷ pos 2730000000000000 ∷ pos 2940000000000000 ∷ pos 3150000000000000 ∷ pos 3360000000000000 ∷ negsuc 1889999999999999 ∷ negsuc 2099999999999999 ∷ negsuc 2309999999999999 ∷ negsuc 2519999999999999 ∷ negsuc 2729999999999999 ∷ negsuc 2939999999999999 ∷ negsuc 3149999999999999 ∷ negsuc 3359999999999999 ∷ pos 0 ∷ pos 0 ∷ pos 0 ∷ pos 0 ∷ pos 0 ∷ pos 0 ∷ pos 0 ∷ pos 0 ∷ [])
    -- RateOfDemand
    ∷ (r ∷ l ∷ f ∷ y ∷ [], pos 280000000000000 ∷ pos 21000000000000 ∷ pos 168000000000000 ∷ pos 210000000000000 ∷ pos 165000000000000 ∷ pos 24500000000000 ∷ pos 144000000000000 ∷ pos 28000000000000 ∷ pos 693000000000000 ∷ pos 183750000000000 ∷ pos 84000000000000 ∷ pos 577500000000000 ∷ pos 33000000000000 ∷ pos 196000000000000 ∷ pos 63000000000000 ∷ pos 105000000000000 ∷ [])
    -- AccumulatedNewCapacity
    ∷ (r ∷ t ∷ y ∷ [], pos 420000000000000 ∷ pos 1050000000000000 ∷ pos 1680000000000000 ∷ pos 2520000000000000 ∷ pos 1470000000000000 ∷ pos 2100000000000000 ∷ pos 1260000000000000 ∷ pos 420000000000000 ∷ [])
    -- TotalCapacityAnnual
    ∷ (r ∷ t ∷ y ∷ [], pos 504000000000000 ∷ pos 1281000000000000 ∷ pos 1827000000000000 ∷ pos 2583000000000000 ∷ pos 1680000000000000 ∷ pos 2226000000000000 ∷ pos 1302000000000000 ∷ pos 609000000000000 ∷ [])
    -- RateOfTotalActivity
    ∷ (r ∷ l ∷ t ∷ y ∷ [], pos 2520000000000000 ∷ pos 1890000000000000 ∷ pos 2730000000000000 ∷ pos 4830000000000000 ∷ pos 2940000000000000 ∷ pos 2310000000000000 ∷ pos 3150000000000000 ∷ pos 2520000000000000 ∷ pos 3360000000000000 ∷ pos 2730000000000000 ∷ pos 3570000000000000 ∷ pos 2940000000000000 ∷ pos 1050000000000000 ∷ pos 3150000000000000 ∷ pos 3990000000000000 ∷ pos 3360000000000000 ∷ [])
    -- RateOfProductionByTechnologyByMode
    ∷ (r ∷ l ∷ t ∷ f ∷ m ∷ y ∷ [], pos 21000000000000 ∷ pos 0 ∷ pos 0 ∷ pos 252000000000000 ∷ pos 105000000000000 ∷ pos 756000000000000 ∷ pos 0 ∷ pos 0 ∷ pos 1512000000000000 ∷ pos 273000000000000 ∷ pos 210000000000000 ∷ pos 0 ∷ pos 0 ∷ pos 1365000000000000 ∷ pos 630000000000000 ∷ pos 1470000000000000 ∷ pos 42000000000000 ∷ pos 0 ∷ pos 0 ∷ pos 336000000000000 ∷ pos 210000000000000 ∷ pos 882000000000000 ∷ pos 0 ∷ pos 0 ∷ pos 1701000000000000 ∷ pos 21000000000000 ∷ pos 252000000000000 ∷ pos 0 ∷ pos 0 ∷ pos 105000000000000 ∷ pos 756000000000000 ∷ pos 1617000000000000 ∷ pos 0 ∷ pos 0 ∷ pos 273000000000000 ∷ pos 210000000000000 ∷ pos 189000000000000 ∷ pos 0 ∷ pos 0 ∷ pos 630000000000000 ∷ pos 1470000000000000 ∷ pos 336000000000000 ∷ pos 0 ∷ pos 0 ∷ pos 420000000000000 ∷ pos 126000000000000 ∷ pos 588000000000000 ∷ pos 0 ∷ pos 0 ∷ pos 0 ∷ pos 21000000000000 ∷ pos 252000000000000 ∷ pos 252000000000000 ∷ pos 0 ∷ pos 0 ∷ pos 756000000000000 ∷ pos 1617000000000000 ∷ pos 504000000000000 ∷ pos 0 ∷ pos 0 ∷ pos 462000000000000 ∷ pos 189000000000000 ∷ pos 672000000000000 ∷ pos 0 ∷ [])
    -- RateOfProductionByTechnology
    ∷ (r ∷ l ∷ t ∷ f ∷ y ∷ [], pos 21000000000000 ∷ pos 252000000000000 ∷ pos 105000000000000 ∷ pos 756000000000000 ∷ pos 1722000000000000 ∷ pos 273000000000000 ∷ pos 630000000000000 ∷ pos 2835000000000000 ∷ pos 42000000000000 ∷ pos 336000000000000 ∷ pos 210000000000000 ∷ pos 882000000000000 ∷ pos 1953000000000000 ∷ pos 21000000000000 ∷ pos 756000000000000 ∷ pos 1722000000000000 ∷ pos 273000000000000 ∷ pos 210000000000000 ∷ pos 189000000000000 ∷ pos 630000000000000 ∷ pos 1470000000000000 ∷ pos 336000000000000 ∷ pos 1008000000000000 ∷ pos 126000000000000 ∷ pos 21000000000000 ∷ pos 252000000000000 ∷ pos 252000000000000 ∷ pos 756000000000000 ∷ pos 1617000000000000 ∷ pos 504000000000000 ∷ pos 1134000000000000 ∷ pos 189000000000000 ∷ [])
    -- RateOfProduction
    ∷ (r ∷ l ∷ f ∷ y ∷ [], pos 1743000000000000 ∷ pos 525000000000000 ∷ pos 735000000000000 ∷ pos 3591000000000000 ∷ pos 1995000000000000 ∷ pos 357000000000000 ∷ pos 966000000000000 ∷ pos 2604000000000000 ∷ pos 1743000000000000 ∷ pos 546000000000000 ∷ pos 1197000000000000 ∷ pos 756000000000000 ∷ pos 1638000000000000 ∷ pos 756000000000000 ∷ pos 1386000000000000 ∷ pos 945000000000000 ∷ [])
    -- RateOfUseByTechnologyByMode
    ∷ (r ∷ l ∷ t ∷ f ∷ m ∷ y ∷ [], pos 21000000000000 ∷ pos 0 ∷ pos 0 ∷ pos 252000000000000 ∷ pos 0 ∷ pos 0 ∷ pos 1617000000000000 ∷ pos 0 ∷ pos 0 ∷ pos 819000000000000 ∷ pos 0 ∷ pos 0 ∷ pos 1008000000000000 ∷ pos 0 ∷ pos 0 ∷ pos 420000000000000 ∷ pos 42000000000000 ∷ pos 0 ∷ pos 0 ∷ pos 336000000000000 ∷ pos 0 ∷ pos 0 ∷ pos 1764000000000000 ∷ pos 0 ∷ pos 0 ∷ pos 63000000000000 ∷ pos 0 ∷ pos 0 ∷ pos 1134000000000000 ∷ pos 0 ∷ pos 0 ∷ pos 462000000000000 ∷ pos 0 ∷ pos 0 ∷ pos 1365000000000000 ∷ pos 0 ∷ pos 0 ∷ pos 168000000000000 ∷ pos 0 ∷ pos 0 ∷ pos 840000000000000 ∷ pos 0 ∷ pos 0 ∷ pos 1764000000000000 ∷ pos 0 ∷ pos 0 ∷ pos 441000000000000 ∷ pos 0 ∷ pos 0 ∷ pos 0 ∷ pos 105000000000000 ∷ pos 0 ∷ pos 0 ∷ pos 189000000000000 ∷ pos 0 ∷ pos 0 ∷ pos 924000000000000 ∷ pos 0 ∷ pos 0 ∷ pos 1911000000000000 ∷ pos 0 ∷ pos 0 ∷ pos 504000000000000 ∷ pos 0 ∷ [])
    -- RateOfUseByTechnology
    ∷ (r ∷ l ∷ t ∷ f ∷ y ∷ [], pos 21000000000000 ∷ pos 252000000000000 ∷ pos 1617000000000000 ∷ pos 0 ∷ pos 0 ∷ pos 819000000000000 ∷ pos 1008000000000000 ∷ pos 420000000000000 ∷ pos 42000000000000 ∷ pos 336000000000000 ∷ pos 1764000000000000 ∷ pos 0 ∷ pos 0 ∷ pos 63000000000000 ∷ pos 1134000000000000 ∷ pos 462000000000000 ∷ pos 1365000000000000 ∷ pos 0 ∷ pos 0 ∷ pos 168000000000000 ∷ pos 840000000000000 ∷ pos 1764000000000000 ∷ pos 441000000000000 ∷ pos 0 ∷ pos 105000000000000 ∷ pos 0 ∷ pos 0 ∷ pos 189000000000000 ∷ pos 924000000000000 ∷ pos 1911000000000000 ∷ pos 504000000000000 ∷ pos 0 ∷ [])
    -- RateOfUse
    ∷ (r ∷ l ∷ f ∷ y ∷ [], pos 21000000000000 ∷ pos 1071000000000000 ∷ pos 2625000000000000 ∷ pos 420000000000000 ∷ pos 42000000000000 ∷ pos 399000000000000 ∷ pos 2898000000000000 ∷ pos 462000000000000 ∷ pos 2205000000000000 ∷ pos 1764000000000000 ∷ pos 441000000000000 ∷ pos 168000000000000 ∷ pos 1029000000000000 ∷ pos 1911000000000000 ∷ pos 504000000000000 ∷ pos 189000000000000 ∷ [])
    -- Production
    ∷ (r ∷ l ∷ f ∷ y ∷ [], pos 522900000000000 ∷ pos 210000000000000 ∷ pos 220500000000000 ∷ pos 1436400000000000 ∷ pos 1396500000000000 ∷ pos 214200000000000 ∷ pos 676200000000000 ∷ pos 1562400000000000 ∷ pos 522900000000000 ∷ pos 218400000000000 ∷ pos 359100000000000 ∷ pos 302400000000000 ∷ pos 1146600000000000 ∷ pos 453600000000000 ∷ pos 970200000000000 ∷ pos 567000000000000 ∷ [])
    -- Use
    ∷ (r ∷ l ∷ f ∷ y ∷ [], pos 6300000000000 ∷ pos 428400000000000 ∷ pos 787500000000000 ∷ pos 168000000000000 ∷ pos 29400000000000 ∷ pos 239400000000000 ∷ pos 2028600000000000 ∷ pos 277200000000000 ∷ pos 661500000000000 ∷ pos 705600000000000 ∷ pos 132300000000000 ∷ pos 67200000000000 ∷ pos 720300000000000 ∷ pos 1146600000000000 ∷ pos 352800000000000 ∷ pos 113400000000000 ∷ [])
    -- Demand
    ∷ (r ∷ l ∷ f ∷ y ∷ [], pos 84000000000000 ∷ pos 8400000000000 ∷ pos 50400000000000 ∷ pos 84000000000000 ∷ pos 115500000000000 ∷ pos 14700000000000 ∷ pos 100800000000000 ∷ pos 16800000000000 ∷ pos 207900000000000 ∷ pos 73500000000000 ∷ pos 25200000000000 ∷ pos 231000000000000 ∷ pos 23100000000000 ∷ pos 117600000000000 ∷ pos 44100000000000 ∷ pos 63000000000000 ∷ [])
    -- ProductionAnnual
    ∷ (r ∷ f ∷ y ∷ [], pos 1919400000000000 ∷ pos 424200000000000 ∷ pos 896700000000000 ∷ pos 2998800000000000 ∷ pos 1669500000000000 ∷ pos 672000000000000 ∷ pos 1329300000000000 ∷ pos 869400000000000 ∷ [])
    -- UseAnnual
    ∷ (r ∷ f ∷ y ∷ [], pos 35700000000000 ∷ pos 667800000000000 ∷ pos 2816100000000000 ∷ pos 445200000000000 ∷ pos 1381800000000000 ∷ pos 1852200000000000 ∷ pos 485100000000000 ∷ pos 180600000000000 ∷ [])
    -- TradeAnnual
    ∷ (r ∷ rr ∷ f ∷ y ∷ [], pos 0 ∷ pos 0 ∷ pos 0 ∷ pos 0 ∷ pos 4620000000000000 ∷ pos 5040000000000000 ∷ pos 5460000000000000 ∷ pos 5880000000000000 ∷ negsuc 4619999999999999 ∷ negsuc 5039999999999999 ∷ negsuc 5459999999999999 ∷ negsuc 5879999999999999 ∷ pos 0 ∷ pos 0 ∷ pos 0 ∷ pos 0 ∷ [])
    -- ProductionByTechnology
    ∷ (r ∷ l ∷ t ∷ f ∷ y ∷ [], pos 6300000000000 ∷ pos 100800000000000 ∷ pos 31500000000000 ∷ pos 302400000000000 ∷ pos 516600000000000 ∷ pos 109200000000000 ∷ pos 189000000000000 ∷ pos 1134000000000000 ∷ pos 29400000000000 ∷ pos 201600000000000 ∷ pos 147000000000000 ∷ pos 529200000000000 ∷ pos 1367100000000000 ∷ pos 12600000000000 ∷ pos 529200000000000 ∷ pos 1033200000000000 ∷ pos 81900000000000 ∷ pos 84000000000000 ∷ pos 56700000000000 ∷ pos 252000000000000 ∷ pos 441000000000000 ∷ pos 134400000000000 ∷ pos 302400000000000 ∷ pos 50400000000000 ∷ pos 14700000000000 ∷ pos 151200000000000 ∷ pos 176400000000000 ∷ pos 453600000000000 ∷ pos 1131900000000000 ∷ pos 302400000000000 ∷ pos 793800000000000 ∷ pos 113400000000000 ∷ [])
    -- UseByTechnology
    ∷ (r ∷ l ∷ t ∷ f ∷ y ∷ [], pos 6300000000000 ∷ pos 100800000000000 ∷ pos 485100000000000 ∷ pos 0 ∷ pos 0 ∷ pos 327600000000000 ∷ pos 302400000000000 ∷ pos 168000000000000 ∷ pos 29400000000000 ∷ pos 201600000000000 ∷ pos 1234800000000000 ∷ pos 0 ∷ pos 0 ∷ pos 37800000000000 ∷ pos 793800000000000 ∷ pos 277200000000000 ∷ pos 409500000000000 ∷ pos 0 ∷ pos 0 ∷ pos 67200000000000 ∷ pos 252000000000000 ∷ pos 705600000000000 ∷ pos 132300000000000 ∷ pos 0 ∷ pos 73500000000000 ∷ pos 0 ∷ pos 0 ∷ pos 113400000000000 ∷ pos 646800000000000 ∷ pos 1146600000000000 ∷ pos 352800000000000 ∷ pos 0 ∷ [])
    -- TotalAnnualTechnologyActivityByMode
    ∷ (r ∷ t ∷ m ∷ y ∷ [], pos 357000000000000 ∷ pos 1386000000000000 ∷ pos 2457000000000000 ∷ pos 756000000000000 ∷ pos 1827000000000000 ∷ pos 1218000000000000 ∷ pos 1197000000000000 ∷ pos 2226000000000000 ∷ pos 777000000000000 ∷ pos 1806000000000000 ∷ pos 966000000000000 ∷ pos 1176000000000000 ∷ pos 2247000000000000 ∷ pos 546000000000000 ∷ pos 1617000000000000 ∷ pos 2646000000000000 ∷ [])
    -- CapitalInvestment
    ∷ (r ∷ t ∷ y ∷ [], pos 84000000000000 ∷ pos 945000000000000 ∷ pos 840000000000000 ∷ pos 84000000000000 ∷ pos 1176000000000000 ∷ pos 252000000000000 ∷ pos 1386000000000000 ∷ pos 294000000000000 ∷ [])
    -- DiscountedCapitalInvestment
    ∷ (r ∷ t ∷ y ∷ [], pos 84000000000000 ∷ pos 709991730000000 ∷ pos 840000000000000 ∷ pos 63110376000000 ∷ pos 1176000000000000 ∷ pos 252000000000000 ∷ pos 1386000000000000 ∷ pos 294000000000000 ∷ [])
    -- SalvageValue
    ∷ (r ∷ t ∷ y ∷ [], pos 0 ∷ pos 494999505000000 ∷ pos 0 ∷ pos 65900436000000 ∷ pos 235200000000000 ∷ pos 201600000000000 ∷ pos 0 ∷ pos 195999804000000 ∷ [])
    -- DiscountedSalvageValue
    ∷ (r ∷ t ∷ y ∷ [], pos 0 ∷ pos 338091096908565 ∷ pos 0 ∷ pos 45010854493668 ∷ pos 235200000000000 ∷ pos 201600000000000 ∷ pos 0 ∷ pos 195999804000000 ∷ [])
    -- AnnualVariableOperatingCost
    ∷ (r ∷ t ∷ y ∷ [], pos 2144100000000000 ∷ pos 441000000000000 ∷ pos 2368800000000000 ∷ pos 3078600000000000 ∷ pos 1335600000000000 ∷ pos 949200000000000 ∷ pos 871500000000000 ∷ pos 3347400000000000 ∷ [])
    -- AnnualFixedOperatingCost
    ∷ (r ∷ t ∷ y ∷ [], pos 403200000000000 ∷ pos 512400000000000 ∷ pos 2009700000000000 ∷ pos 1808100000000000 ∷ pos 504000000000000 ∷ pos 2226000000000000 ∷ pos 781200000000000 ∷ pos 121800000000000 ∷ [])
    -- OperatingCost
    ∷ (r ∷ t ∷ y ∷ [], pos 2547300000000000 ∷ pos 953400000000000 ∷ pos 4378500000000000 ∷ pos 4886700000000000 ∷ pos 1839600000000000 ∷ pos 3175200000000000 ∷ pos 1652700000000000 ∷ pos 3469200000000000 ∷ [])
    -- DiscountedOperatingCost
    ∷ (r ∷ t ∷ y ∷ [], pos 2428753752600000 ∷ pos 682968090000000 ∷ pos 4174733367000000 ∷ pos 3500587545000000 ∷ pos 1839600000000000 ∷ pos 3175200000000000 ∷ pos 1652700000000000 ∷ pos 3469200000000000 ∷ [])
    -- AnnualTechnologyEmissionByMode
    ∷ (r ∷ t ∷ e ∷ m ∷ y ∷ [], negsuc 71399999999999 ∷ pos 0 ∷ pos 0 ∷ pos 75600000000000 ∷ pos 71400000000000 ∷ pos 0 ∷ negsuc 491399999999999 ∷ negsuc 75599999999999 ∷ pos 0 ∷ pos 0 ∷ pos 239400000000000 ∷ pos 667800000000000 ∷ negsuc 365399999999999 ∷ pos 0 ∷ pos 0 ∷ pos 222600000000000 ∷ pos 155400000000000 ∷ pos 0 ∷ negsuc 193199999999999 ∷ negsuc 117599999999999 ∷ pos 0 ∷ pos 0 ∷ pos 193200000000000 ∷ pos 352800000000000 ∷ negsuc 449399999999999 ∷ pos 0 ∷ pos 0 ∷ pos 264600000000000 ∷ pos 449400000000000 ∷ pos 0 ∷ negsuc 323399999999999 ∷ negsuc 264599999999999 ∷ [])
    -- AnnualTechnologyEmission
    ∷ (r ∷ t ∷ e ∷ y ∷ [], negsuc 71399999999999 ∷ pos 75600000000000 ∷ negsuc 419999999999999 ∷ negsuc 75599999999999 ∷ pos 239400000000000 ∷ pos 667800000000000 ∷ negsuc 365399999999999 ∷ pos 222600000000000 ∷ negsuc 37799999999999 ∷ negsuc 117599999999999 ∷ pos 193200000000000 ∷ pos 352800000000000 ∷ negsuc 449399999999999 ∷ pos 264600000000000 ∷ pos 126000000000000 ∷ negsuc 264599999999999 ∷ [])
    -- AnnualTechnologyEmissionPenaltyByEmission
    ∷ (r ∷ t ∷ e ∷ y ∷ [], negsuc 28559999999999 ∷ pos 83160000000000 ∷ negsuc 293999999999999 ∷ negsuc 22679999999999 ∷ pos 95760000000000 ∷ pos 734580000000000 ∷ negsuc 255779999999999 ∷ pos 66780000000000 ∷ negsuc 37799999999999 ∷ negsuc 70559999999999 ∷ pos 38640000000000 ∷ pos 317520000000000 ∷ negsuc 449399999999999 ∷ pos 158760000000000 ∷ pos 25200000000000 ∷ negsuc 238139999999999 ∷ [])
    -- AnnualTechnologyEmissionsPenalty
    ∷ (r ∷ t ∷ y ∷ [], negsuc 322559999999999 ∷ pos 60480000000000 ∷ negsuc 160019999999999 ∷ pos 801360000000000 ∷ pos 840000000000 ∷ pos 246960000000000 ∷ negsuc 424199999999999 ∷ negsuc 79379999999999 ∷ [])
    -- DiscountedTechnologyEmissionsPenalty
    ∷ (r ∷ t ∷ y ∷ [], negsuc 307548702719999 ∷ pos 43324848000000 ∷ negsuc 152572989239999 ∷ pos 574054236000000 ∷ pos 840000000000 ∷ pos 246960000000000 ∷ negsuc 424199999999999 ∷ negsuc 79379999999999 ∷ [])
    -- TotalDiscountedCostByTechnology
    ∷ (r ∷ t ∷ y ∷ [], pos 2205205049880000 ∷ pos 1098193571091435 ∷ pos 4862160377760000 ∷ pos 4092741302506332 ∷ pos 2781240000000000 ∷ pos 3472560000000000 ∷ pos 2614500000000000 ∷ pos 3487820196000000 ∷ [])
    -- TotalDiscountedCost
    ∷ (r ∷ y ∷ [], pos 7067365427640000 ∷ pos 5190934873597767 ∷ pos 5395740000000000 ∷ pos 6960380196000000 ∷ [])
    -- ModelPeriodCostByRegion
    ∷ (r ∷ [], pos 12258300301237767 ∷ pos 12356120196000000 ∷ [])
    -- TotalTechnologyAnnualActivity
    ∷ (r ∷ t ∷ y ∷ [], pos 2814000000000000 ∷ pos 2142000000000000 ∷ pos 3024000000000000 ∷ pos 3444000000000000 ∷ pos 1743000000000000 ∷ pos 2982000000000000 ∷ pos 3864000000000000 ∷ pos 3192000000000000 ∷ [])
    -- TotalTechnologyModelPeriodActivity
    ∷ (r ∷ t ∷ [], pos 4956000000000000 ∷ pos 6468000000000000 ∷ pos 4725000000000000 ∷ pos 7056000000000000 ∷ [])
    -- TotalCapacityInReserveMargin
    ∷ (r ∷ y ∷ [], pos 1537200000000000 ∷ pos 1071630000000000 ∷ pos 1186920000000000 ∷ pos 1056720000000000 ∷ [])
    -- DemandNeedingReserveMargin
    ∷ (r ∷ l ∷ y ∷ [], pos 2202900000000000 ∷ pos 2723700000000000 ∷ pos 2658600000000000 ∷ pos 1965600000000000 ∷ pos 1241100000000000 ∷ pos 697200000000000 ∷ pos 1323000000000000 ∷ pos 945000000000000 ∷ [])
    -- ProductionByTechnologyAnnual
    ∷ (r ∷ t ∷ f ∷ y ∷ [], pos 35700000000000 ∷ pos 302400000000000 ∷ pos 178500000000000 ∷ pos 831600000000000 ∷ pos 1883700000000000 ∷ pos 121800000000000 ∷ pos 718200000000000 ∷ pos 2167200000000000 ∷ pos 96600000000000 ∷ pos 235200000000000 ∷ pos 233100000000000 ∷ pos 705600000000000 ∷ pos 1572900000000000 ∷ pos 436800000000000 ∷ pos 1096200000000000 ∷ pos 163800000000000 ∷ [])
    -- TotalREProductionAnnual
    ∷ (r ∷ y ∷ [], pos 1625400000000000 ∷ pos 1591800000000000 ∷ pos 563640000000000 ∷ pos 950880000000000 ∷ [])
    -- RETotalProductionOfTargetFuelAnnual
    ∷ (r ∷ y ∷ [], pos 1958670000000000 ∷ pos 1584240000000000 ∷ pos 698670000000000 ∷ pos 1493940000000000 ∷ [])
    -- UseByTechnologyAnnual
    ∷ (r ∷ t ∷ f ∷ y ∷ [], pos 35700000000000 ∷ pos 302400000000000 ∷ pos 1719900000000000 ∷ pos 0 ∷ pos 0 ∷ pos 365400000000000 ∷ pos 1096200000000000 ∷ pos 445200000000000 ∷ pos 483000000000000 ∷ pos 0 ∷ pos 0 ∷ pos 180600000000000 ∷ pos 898800000000000 ∷ pos 1852200000000000 ∷ pos 485100000000000 ∷ pos 0 ∷ [])
    -- AnnualEmissions
    ∷ (r ∷ e ∷ y ∷ [], pos 168000000000000 ∷ pos 743400000000000 ∷ negsuc 785399999999999 ∷ pos 147000000000000 ∷ negsuc 487199999999999 ∷ pos 147000000000000 ∷ pos 319200000000000 ∷ pos 88200000000000 ∷ [])
    -- ModelPeriodEmissions
    ∷ (r ∷ e ∷ [], pos 953400000000000 ∷ negsuc 449399999999999 ∷ negsuc 235199999999999 ∷ pos 428400000000000 ∷ [])
    ∷ []

-- the subscript at this place of an index
abbrev subscript : Index → ℕ → ℕ
subscript i place = slice_index_or (i.region ∷ i.other ∷ i.slice ∷ i.tech ∷ i.fuel ∷ i.emission ∷ i.mode ∷ i.year ∷ []) place 0

-- the plan
abbrev x : Var → ℤ
x v =
    let entry : List ℕ × List ℤ = slice_index_or numbers (v.kind - 1) ([], []) in
    slice_index_or entry.1 (fold (λ n place. 2 * n + subscript v.index place) 0 entry.0) (pos 0)

-- ---- what the plan meets

-- which instances of the equation it meets, in their order
abbrev met : ℕ → List Bool
met eq = map (meets 6 wide q x) (instances_of wide eq)

-- how many instances the equation has, all of which it meets
abbrev all_met : ℕ → ℕ × Bool
all_met eq = (length (instances_of wide eq), list_all (meets 6 wide q x) (instances_of wide eq))

definitions_1_to_4 : map all_met (1 ∷ 2 ∷ 3 ∷ 4 ∷ []) ≡ (16, true) ∷ (8, true) ∷ (8, true) ∷ (16, true) ∷ []
unfolding discounted capital_factor root_from half_year_root operating_factor salvage_fraction
definitions_1_to_4 = refl

definitions_7_to_8 : map all_met (7 ∷ 8 ∷ []) ≡ (38, true) ∷ (32, true) ∷ []
unfolding discounted capital_factor root_from half_year_root operating_factor salvage_fraction
definitions_7_to_8 = refl

definitions_9_to_11 : map all_met (9 ∷ 10 ∷ 11 ∷ []) ≡ (16, true) ∷ (22, true) ∷ (22, true) ∷ []
unfolding discounted capital_factor root_from half_year_root operating_factor salvage_fraction
definitions_9_to_11 = refl

definitions_12_to_14 : map all_met (12 ∷ 13 ∷ 14 ∷ []) ≡ (16, true) ∷ (16, true) ∷ (16, true) ∷ []
unfolding discounted capital_factor root_from half_year_root operating_factor salvage_fraction
definitions_12_to_14 = refl

definitions_15_to_16 : map all_met (15 ∷ 16 ∷ []) ≡ (16, true) ∷ (32, true) ∷ []
unfolding discounted capital_factor root_from half_year_root operating_factor salvage_fraction
definitions_15_to_16 = refl

definitions_18_to_22 : map all_met (18 ∷ 19 ∷ 20 ∷ 22 ∷ []) ≡ (8, true) ∷ (8, true) ∷ (16, true) ∷ (32, true) ∷ []
unfolding discounted capital_factor root_from half_year_root operating_factor salvage_fraction
definitions_18_to_22 = refl

definitions_23_to_25 : map all_met (23 ∷ 24 ∷ 25 ∷ []) ≡ (22, true) ∷ (16, true) ∷ (8, true) ∷ []
unfolding discounted capital_factor root_from half_year_root operating_factor salvage_fraction
definitions_23_to_25 = refl

definitions_26_to_32 : map all_met (26 ∷ 27 ∷ 28 ∷ 29 ∷ 30 ∷ 31 ∷ 32 ∷ []) ≡ (8, true) ∷ (2, true) ∷ (3, true) ∷ (3, true) ∷ (8, true) ∷ (8, true) ∷ (8, true) ∷ []
unfolding discounted capital_factor root_from half_year_root operating_factor salvage_fraction
definitions_26_to_32 = refl

definitions_33_to_36 : map all_met (33 ∷ 34 ∷ 35 ∷ 36 ∷ []) ≡ (8, true) ∷ (8, true) ∷ (19, true) ∷ (16, true) ∷ []
unfolding discounted capital_factor root_from half_year_root operating_factor salvage_fraction
definitions_33_to_36 = refl

definitions_37_to_40 : map all_met (37 ∷ 38 ∷ 39 ∷ 40 ∷ []) ≡ (16, true) ∷ (8, true) ∷ (8, true) ∷ (8, true) ∷ []
unfolding discounted capital_factor root_from half_year_root operating_factor salvage_fraction
definitions_37_to_40 = refl

definitions_41_to_56 : map all_met (41 ∷ 42 ∷ 47 ∷ 50 ∷ 53 ∷ 54 ∷ 56 ∷ []) ≡ (4, true) ∷ (2, true) ∷ (8, true) ∷ (4, true) ∷ (4, true) ∷ (8, true) ∷ (16, true) ∷ []
unfolding discounted capital_factor root_from half_year_root operating_factor salvage_fraction
definitions_41_to_56 = refl

definitions_57_to_62 : map all_met (57 ∷ 58 ∷ 60 ∷ 61 ∷ 62 ∷ []) ≡ (4, true) ∷ (4, true) ∷ (11, true) ∷ (8, true) ∷ (4, true) ∷ []
unfolding discounted capital_factor root_from half_year_root operating_factor salvage_fraction
definitions_57_to_62 = refl

inequality_5 : met 5 ≡ false ∷ false ∷ false ∷ false ∷ false ∷ false ∷ false ∷ true ∷ false ∷ false ∷ false ∷ false ∷ false ∷ false ∷ false ∷ false ∷ []
inequality_5 = refl

inequality_6 : met 6 ≡ false ∷ false ∷ false ∷ false ∷ false ∷ false ∷ false ∷ false ∷ []
inequality_6 = refl

inequality_17 : met 17 ≡ false ∷ false ∷ false ∷ false ∷ false ∷ false ∷ false ∷ false ∷ true ∷ true ∷ true ∷ true ∷ true ∷ true ∷ true ∷ true ∷ []
inequality_17 = refl

inequality_21 : met 21 ≡ false ∷ false ∷ false ∷ false ∷ true ∷ true ∷ true ∷ true ∷ []
inequality_21 = refl

inequality_43 : met 43 ≡ false ∷ false ∷ false ∷ false ∷ true ∷ []
inequality_43 = refl

inequality_44 : met 44 ≡ true ∷ true ∷ true ∷ true ∷ []
inequality_44 = refl

inequality_45 : met 45 ≡ false ∷ false ∷ false ∷ true ∷ true ∷ []
inequality_45 = refl

inequality_46 : met 46 ≡ true ∷ true ∷ true ∷ true ∷ []
inequality_46 = refl

inequality_48 : met 48 ≡ false ∷ false ∷ false ∷ false ∷ false ∷ []
inequality_48 = refl

inequality_49 : met 49 ≡ true ∷ true ∷ true ∷ true ∷ []
inequality_49 = refl

inequality_51 : met 51 ≡ false ∷ false ∷ []
inequality_51 = refl

inequality_52 : met 52 ≡ true ∷ true ∷ []
inequality_52 = refl

inequality_55 : met 55 ≡ false ∷ false ∷ false ∷ false ∷ true ∷ true ∷ true ∷ true ∷ []
inequality_55 = refl

inequality_59 : met 59 ≡ false ∷ true ∷ true ∷ false ∷ []
inequality_59 = refl

inequality_63 : met 63 ≡ true ∷ true ∷ true ∷ true ∷ true ∷ []
inequality_63 = refl

inequality_64 : met 64 ≡ true ∷ true ∷ true ∷ []
inequality_64 = refl

the_cost : cost wide x ≡ pos 24614420497237767
the_cost = refl
