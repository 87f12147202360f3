-- The base example: one region R, technology T, fuel F, mode of operation 1, timeslice D and year 2020, no emission, and defaults alone.
use Rattle.std.specs.Prelude.{ℕ, ◌^◌, ◌*◌, ℤ, pos, neg_ℤ, Bool, true, false, List, [], ◌∷◌, ◌++◌, codes}
use Rattle.named_equations.proofs.Common.{enumerate_from, Data, Default, Given, SetLists}
use Rattle.std.specs.Prelude.{map}

-- a whole number in billionths
abbrev pub whole : ℕ → ℤ
whole n = pos (n * 10 ^ 9)

-- -1 in billionths
abbrev pub minus_one : ℤ
minus_one = neg_ℤ (whole 1)

-- a default of the parameter of this number
abbrev pub default : ℕ → ℤ → Default
default param value = record { param = param; value = value }

-- a value of the parameter of this number, at the members of these names
abbrev pub given : ℕ → List (List ℕ) → ℤ → Given
given param index value = record { param = param; index = index; value = value }

-- the sets with these regions, technologies, fuels, emissions, modes, timeslices and years, and no others
abbrev pub sets_of : List (List ℕ) → List (List ℕ) → List (List ℕ) → List (List ℕ) → List (List ℕ) → List (List ℕ) → List (List ℕ) → SetLists
sets_of regions technologies fuels emissions modes timeslices years =
    regions ∷ technologies ∷ fuels ∷ emissions ∷ modes ∷ timeslices ∷ years ∷ [] ∷ [] ∷ [] ∷ [] ∷ []

-- the defaults of the used parameters, from number 1, in billionths
abbrev pub base_values : List ℤ
base_values =
    -- YearSplit 1, DiscountRate 0, DepreciationMethod 1, TradeRoute 0
    whole 1 ∷ whole 0 ∷ whole 1 ∷ whole 0
    -- SpecifiedAnnualDemand 10, SpecifiedDemandProfile 1, AccumulatedAnnualDemand 0
    ∷ whole 10 ∷ whole 1 ∷ whole 0
    -- CapacityToActivityUnit 1, CapacityFactor 1, AvailabilityFactor 1, OperationalLife 1, ResidualCapacity 0
    ∷ whole 1 ∷ whole 1 ∷ whole 1 ∷ whole 1 ∷ whole 0
    -- InputActivityRatio 0, OutputActivityRatio 1
    ∷ whole 0 ∷ whole 1
    -- CapitalCost 5, VariableCost 2, FixedCost 1, CapacityOfOneTechnologyUnit 0
    ∷ whole 5 ∷ whole 2 ∷ whole 1 ∷ whole 0
    -- the limits of capacity and of new capacity, greatest and least
    ∷ minus_one ∷ whole 0 ∷ minus_one ∷ whole 0
    -- the limits of annual activity, and of the model period's activity, greatest and least
    ∷ minus_one ∷ whole 0 ∷ whole 0 ∷ whole 0
    -- ReserveMarginTagTechnology, ReserveMarginTagFuel, ReserveMargin, RETagTechnology, RETagFuel, REMinProductionTarget: 0
    ∷ whole 0 ∷ whole 0 ∷ whole 0 ∷ whole 0 ∷ whole 0 ∷ whole 0
    -- EmissionActivityRatio, EmissionsPenalty, AnnualExogenousEmission 0 and AnnualEmissionLimit -1
    ∷ whole 0 ∷ whole 0 ∷ whole 0 ∷ minus_one
    -- ModelPeriodExogenousEmission 0 and ModelPeriodEmissionLimit -1
    ∷ whole 0 ∷ minus_one ∷ []

-- defaults for the parameters from this number on
abbrev pub defaults_from : ℕ → List ℤ → List Default
defaults_from param values = map (λ entry. default entry.0 entry.1) (enumerate_from param values)

-- data with the base example's defaults, but for these values and defaults, under profile 2 where second is true
abbrev profile_of : Bool → SetLists → List Given → List Default → Data
profile_of second sets given defaults = record { sets = sets; given = given; defaults = defaults ++ defaults_from 1 base_values; second = second }

-- under profile 1
abbrev pub data_of : SetLists → List Given → List Default → Data
data_of sets given defaults = profile_of false sets given defaults

-- under profile 2, to which DiscountRateIdv belongs
abbrev pub second_of : SetLists → List Given → List Default → Data
second_of sets given defaults = profile_of true sets given defaults

-- the sets of the base example, with these years
abbrev pub base_sets : List (List ℕ) → SetLists
base_sets years = sets_of (codes "R" ∷ []) (codes "T" ∷ []) (codes "F" ∷ []) [] (codes "1" ∷ []) (codes "D" ∷ []) years

-- the base example with other defaults
abbrev pub base_with : List Default → Data
base_with defaults = data_of (base_sets (codes "2020" ∷ [])) [] defaults

-- the base example
abbrev pub base : Data
base = base_with []
