-- Plans over two members of each set that is summed over, under either profile: each of their quantities is its defining sum, and with one value raised it
-- isn't. The values were worked out by a program of another kind, in exact fractions, from the published statements of the equations, step by step.
use Rattle.plan_quantities.proofs.Common.{◌≡◌, ℕ, ◌+◌, ◌*◌, ◌^◌, ℤ, pos, negsuc, ◌+ℤ◌, ◌-ℤ◌, ◌*ℤ◌, Bool, true, false, List, [], ◌∷◌, ◌++◌, map, refl, sym, ap, ◌∙◌, arith, true≢false, and_parts, Decides-int_eq, ints, AllByRecursion, list_all, int_eq, codes, if◌then◌else◌, nat_eq, slice_index_or, annuity, capital_factor, discounted, half_year_root, operating_factor, recovery_factor, root_from, salvage_fraction, Data, Default, Given, CAPITAL_COST, DEPRECIATION_METHOD, DISCOUNT_RATE, DISCOUNT_RATE_IDV, EMISSIONS_PENALTY, EMISSION_ACTIVITY_RATIO, FIXED_COST, INPUT_ACTIVITY_RATIO, OPERATIONAL_LIFE, OUTPUT_ACTIVITY_RATIO, RESIDUAL_CAPACITY, VARIABLE_COST, YEAR_SPLIT, Index, Var, NEW_CAPACITY, RATE_OF_ACTIVITY, TRADE, TRADE_ANNUAL, exists, subscripts_of_kind, at_rrrfy, indices, variable, Has-indices, AreQuantities, AreSums, IsSum, Quantity, quantities}
use Rattle.model_sets.specs.Members.{SetLists}
use Rattle.plan_quantities.proofs.WholeTests.{all_at}

-- ---- data

-- a value in tenths, of the parameter of this number at the members of these names
abbrev at : ℕ → List (List ℕ) → ℤ → Given
at param index tenths = record { param = param; index = index; value = tenths *ℤ pos (10 ^ 8) }

-- a default in tenths
abbrev else_value : ℕ → ℕ → Default
else_value param tenths = record { param = param; value = pos (tenths * 10 ^ 8) }

abbrev sets : SetLists
sets = (codes "A" ∷ codes "B" ∷ []) ∷ (codes "T" ∷ codes "U" ∷ []) ∷ (codes "F" ∷ []) ∷ (codes "C" ∷ []) ∷ (codes "1" ∷ codes "2" ∷ []) ∷ (codes "D" ∷ codes "N" ∷ [])
    ∷ (codes "2020" ∷ codes "2022" ∷ []) ∷ [] ∷ [] ∷ [] ∷ [] ∷ []

abbrev values : List Given
values =
    at YEAR_SPLIT (codes "D" ∷ codes "2022" ∷ []) (pos 4)
    ∷ at YEAR_SPLIT (codes "N" ∷ codes "2020" ∷ []) (pos 7)
    ∷ at YEAR_SPLIT (codes "N" ∷ codes "2022" ∷ []) (pos 6)
    ∷ at DISCOUNT_RATE (codes "A" ∷ []) (pos 1)
    ∷ at DEPRECIATION_METHOD (codes "B" ∷ []) (pos 20)
    ∷ at OPERATIONAL_LIFE (codes "A" ∷ codes "T" ∷ []) (pos 20)
    ∷ at OPERATIONAL_LIFE (codes "B" ∷ codes "T" ∷ []) (pos 20)
    ∷ at RESIDUAL_CAPACITY (codes "A" ∷ codes "T" ∷ codes "2022" ∷ []) (pos 15)
    ∷ at INPUT_ACTIVITY_RATIO (codes "A" ∷ codes "U" ∷ codes "F" ∷ codes "2" ∷ codes "2020" ∷ []) (pos 3)
    ∷ at INPUT_ACTIVITY_RATIO (codes "A" ∷ codes "U" ∷ codes "F" ∷ codes "2" ∷ codes "2022" ∷ []) (pos 4)
    ∷ at OUTPUT_ACTIVITY_RATIO (codes "A" ∷ codes "T" ∷ codes "F" ∷ codes "1" ∷ codes "2020" ∷ []) (pos 12)
    ∷ at OUTPUT_ACTIVITY_RATIO (codes "A" ∷ codes "T" ∷ codes "F" ∷ codes "2" ∷ codes "2020" ∷ []) (pos 5)
    ∷ at OUTPUT_ACTIVITY_RATIO (codes "A" ∷ codes "T" ∷ codes "F" ∷ codes "1" ∷ codes "2022" ∷ []) (pos 11)
    ∷ at OUTPUT_ACTIVITY_RATIO (codes "B" ∷ codes "U" ∷ codes "F" ∷ codes "2" ∷ codes "2022" ∷ []) (pos 9)
    ∷ at CAPITAL_COST (codes "A" ∷ codes "T" ∷ codes "2020" ∷ []) (pos 9)
    ∷ at VARIABLE_COST (codes "A" ∷ codes "T" ∷ codes "2" ∷ codes "2020" ∷ []) (pos 11)
    ∷ at EMISSION_ACTIVITY_RATIO (codes "A" ∷ codes "T" ∷ codes "C" ∷ codes "1" ∷ codes "2020" ∷ []) (pos 5)
    ∷ at EMISSION_ACTIVITY_RATIO (codes "A" ∷ codes "U" ∷ codes "C" ∷ codes "2" ∷ codes "2020" ∷ []) (negsuc 2)
    ∷ at EMISSION_ACTIVITY_RATIO (codes "B" ∷ codes "T" ∷ codes "C" ∷ codes "2" ∷ codes "2022" ∷ []) (pos 8)
    ∷ at EMISSIONS_PENALTY (codes "B" ∷ codes "C" ∷ codes "2022" ∷ []) (pos 7)
    ∷ []

abbrev defaults : List Default
defaults =
    else_value YEAR_SPLIT 3
    ∷ else_value DISCOUNT_RATE 0
    ∷ else_value DEPRECIATION_METHOD 10
    ∷ else_value OPERATIONAL_LIFE 40
    ∷ else_value RESIDUAL_CAPACITY 5
    ∷ else_value INPUT_ACTIVITY_RATIO 0
    ∷ else_value OUTPUT_ACTIVITY_RATIO 0
    ∷ else_value CAPITAL_COST 40
    ∷ else_value VARIABLE_COST 6
    ∷ else_value FIXED_COST 7
    ∷ else_value EMISSION_ACTIVITY_RATIO 0
    ∷ else_value EMISSIONS_PENALTY 20
    ∷ else_value DISCOUNT_RATE_IDV 2
    ∷ []

-- the data, under profile 2 where second is true
abbrev data_under : Bool → Data
data_under second = record { sets = sets; given = values; defaults = defaults; second = second }

abbrev first_profile : Data
first_profile = data_under false

abbrev second_profile : Data
second_profile = data_under true

-- ---- plans

-- the common denominator of the values
abbrev q : ℕ
q = 10 ^ 18

-- what is chosen, in whole units: an activity, a new capacity and a trade of their own at each index
abbrev chosen : ℕ → Index → ℤ
chosen kind i =
    if nat_eq kind RATE_OF_ACTIVITY then pos (1 + i.region * 16 + i.slice * 8 + i.tech * 4 + i.mode * 2 + i.year)
    else if nat_eq kind NEW_CAPACITY then pos (3 + i.region * 4 + i.tech * 2 + i.year)
    else (pos i.region -ℤ pos i.other) *ℤ pos (5 + 2 * i.slice + i.year)

-- the values over q of the quantities that are the same under both profiles, by kind, and then by region, other region or technology, and year
abbrev common_values : List (ℕ × List ℤ)
common_values =
    -- TotalCapacityAnnual
    (6, pos 3500000000000000000 ∷ pos 5500000000000000000 ∷ pos 5500000000000000000 ∷ pos 11500000000000000000 ∷ pos 7500000000000000000 ∷ pos 8500000000000000000 ∷ pos 9500000000000000000 ∷ pos 19500000000000000000 ∷ [])
    -- TotalTechnologyAnnualActivity
    ∷ (39, pos 15200000000000000000 ∷ pos 15600000000000000000 ∷ pos 23200000000000000000 ∷ pos 23600000000000000000 ∷ pos 47200000000000000000 ∷ pos 47600000000000000000 ∷ pos 55200000000000000000 ∷ pos 55600000000000000000 ∷ [])
    -- ProductionByTechnologyAnnual
    ∷ (43, pos 12220000000000000000 ∷ pos 7480000000000000000 ∷ pos 0 ∷ pos 0 ∷ pos 0 ∷ pos 0 ∷ pos 0 ∷ pos 25920000000000000000 ∷ [])
    -- UseByTechnologyAnnual
    ∷ (46, pos 0 ∷ pos 0 ∷ pos 3780000000000000000 ∷ pos 5120000000000000000 ∷ pos 0 ∷ pos 0 ∷ pos 0 ∷ pos 0 ∷ [])
    -- TradeAnnual
    ∷ (19, pos 0 ∷ pos 0 ∷ negsuc 11999999999999999999 ∷ negsuc 13999999999999999999 ∷ pos 12000000000000000000 ∷ pos 14000000000000000000 ∷ pos 0 ∷ pos 0 ∷ [])
    -- AnnualEmissions
    ∷ (47, negsuc 479999999999999999 ∷ pos 0 ∷ pos 0 ∷ pos 0 ∷ pos 0 ∷ pos 19840000000000000000 ∷ pos 0 ∷ pos 0 ∷ [])
    -- DiscountedOperatingCost
    ∷ (30, pos 15131441940000000000 ∷ pos 10409281850000000000 ∷ pos 16943019740000000000 ∷ pos 17501146850000000000 ∷ pos 33570000000000000000 ∷ pos 34510000000000000000 ∷ pos 39770000000000000000 ∷ pos 47010000000000000000 ∷ [])
    -- DiscountedTechnologyEmissionsPenalty
    ∷ (35, pos 6292849200000000000 ∷ pos 0 ∷ negsuc 7208172719999999999 ∷ pos 0 ∷ pos 0 ∷ pos 13888000000000000000 ∷ pos 0 ∷ pos 0 ∷ [])
    -- DiscountedSalvageValue
    ∷ (26, pos 0 ∷ pos 6296720560416000000 ∷ pos 4309401867480000000 ∷ pos 14146262906544000000 ∷ pos 0 ∷ pos 16000000000000000000 ∷ pos 9000000000000000000 ∷ pos 30000000000000000000 ∷ [])
    ∷ []

-- DiscountedCapitalInvestment and TotalDiscountedCost under profile 1
abbrev first_values : List (ℕ × List ℤ)
first_values =
    -- DiscountedCapitalInvestment
    (24, pos 2700000000000000000 ∷ pos 13223136000000000000 ∷ pos 20000000000000000000 ∷ pos 19834704000000000000 ∷ pos 28000000000000000000 ∷ pos 32000000000000000000 ∷ pos 36000000000000000000 ∷ pos 40000000000000000000 ∷ [])
    -- TotalDiscountedCost
    ∷ (37, pos 49549736292520000000 ∷ pos 40525285233040000000 ∷ pos 0 ∷ pos 0 ∷ pos 128340000000000000000 ∷ pos 121408000000000000000 ∷ pos 0 ∷ pos 0 ∷ [])
    ∷ []

-- and under profile 2
abbrev second_values : List (ℕ × List ℤ)
second_values =
    -- DiscountedCapitalInvestment
    (24, pos 2811566097522000000 ∷ pos 13769526252045432960 ∷ pos 22448834897140000000 ∷ pos 22263299766482117328 ∷ pos 30545424000000000000 ∷ pos 34909056000000000000 ∷ pos 46354608000000000000 ∷ pos 51505120000000000000 ∷ [])
    -- TotalDiscountedCost
    ∷ (37, pos 52110137287182000000 ∷ pos 43500271251567550288 ∷ pos 0 ∷ pos 0 ∷ pos 141240032000000000000 ∷ pos 135822176000000000000 ∷ pos 0 ∷ pos 0 ∷ [])
    ∷ []

-- the value of a kind at a place in its list
abbrev listed : List (ℕ × List ℤ) → ℕ → ℕ → ℤ
listed [] kind place = pos 0
listed (entry ∷ entries) kind place = if nat_eq entry.0 kind then slice_index_or entry.1 place (pos 0) else listed entries kind place

-- the plan: what is chosen, and what these lists have
abbrev plan_of : List (ℕ × List ℤ) → Var → ℤ
plan_of values v =
    if nat_eq v.kind RATE_OF_ACTIVITY then chosen v.kind v.index *ℤ pos q
    else if nat_eq v.kind NEW_CAPACITY then chosen v.kind v.index *ℤ pos q
    else if nat_eq v.kind TRADE then chosen v.kind v.index *ℤ pos q
    else listed values v.kind ((v.index.region * 2 + v.index.other + v.index.tech) * 2 + v.index.year)

abbrev first_plan : Var → ℤ
first_plan = plan_of (common_values ++ first_values)

abbrev second_plan : Var → ℤ
second_plan = plan_of (common_values ++ second_values)

-- ---- sums

-- the quantity is its sum at the index, as a test
abbrev is_sum : Data → (Var → ℤ) → Quantity → Index → Bool
is_sum d x quantity i =
    if exists d (variable quantity.kind i) then int_eq (quantity.scale 6 *ℤ x (variable quantity.kind i)) (quantity.sum 6 d q x i)
    else int_eq (quantity.sum 6 d q x i) (pos 0)

-- where the test says so, it is
tested : (d : Data) (x : Var → ℤ) (quantity : Quantity) (i : Index) → is_sum d x quantity i ≡ true → IsSum 6 d q x quantity i
tested d x quantity i test = by_existence (exists d (variable quantity.kind i)) refl test
  where
    by_existence : (there : Bool) → exists d (variable quantity.kind i) ≡ there
        → (if there then int_eq (quantity.scale 6 *ℤ x (variable quantity.kind i)) (quantity.sum 6 d q x i) else int_eq (quantity.sum 6 d q x i) (pos 0)) ≡ true
        → IsSum 6 d q x quantity i
    by_existence true is same = record { existing = λ there. (Decides-int_eq (quantity.scale 6 *ℤ x (variable quantity.kind i)) (quantity.sum 6 d q x i)).0 same; missing = λ none. absurd (true≢false (sym is ∙ none)) }
    by_existence false is none_is = record { existing = λ there. absurd (true≢false (sym there ∙ is)); missing = λ none. (Decides-int_eq (quantity.sum 6 d q x i) (pos 0)).0 none_is }

-- at every index
abbrev are_sums : Data → (Var → ℤ) → Quantity → Bool
are_sums d x quantity = list_all (is_sum d x quantity) (indices d (subscripts_of_kind quantity.kind))

-- which of the twelve are, in the order of the report
abbrev which : Data → (Var → ℤ) → List Bool
which d x = map (are_sums d x) quantities

abbrev all_twelve : List Bool
all_twelve = true ∷ true ∷ true ∷ true ∷ true ∷ true ∷ true ∷ true ∷ true ∷ true ∷ true ∷ true ∷ []

first_are : which first_profile first_plan ≡ all_twelve
unfolding annuity capital_factor discounted half_year_root operating_factor recovery_factor root_from salvage_fraction
first_are = refl

second_are : which second_profile second_plan ≡ all_twelve
unfolding annuity capital_factor discounted half_year_root operating_factor recovery_factor root_from salvage_fraction
second_are = refl

-- where the tests pass, every quantity is its sum at every index
sums_by : (d : Data) (x : Var → ℤ) (quantity : Quantity) → are_sums d x quantity ≡ true → AreSums 6 d q x quantity
sums_by d x quantity passes i is =
    let subscripts = subscripts_of_kind quantity.kind in
    tested d x quantity i (all_at (is_sum d x quantity) (indices d subscripts) i passes (Has-indices d subscripts i is))

each_by : (d : Data) (x : Var → ℤ) (some : List Quantity) → list_all (λ is. is) (map (are_sums d x) some) ≡ true → AllByRecursion (AreSums 6 d q x) some
each_by d x [] passes = tt
each_by d x (quantity ∷ others) passes =
    let parts = and_parts (are_sums d x quantity) (list_all (λ is. is) (map (are_sums d x) others)) passes in
    (sums_by d x quantity parts.0, each_by d x others parts.1)

first_quantities : AreQuantities 6 first_profile q first_plan
first_quantities = each_by first_profile first_plan quantities (ap (list_all (λ is. is)) first_are)

second_quantities : AreQuantities 6 second_profile q second_plan
second_quantities = each_by second_profile second_plan quantities (ap (list_all (λ is. is)) second_are)

-- ---- near misses

-- the plan of profile 1 under profile 2: the investment and the total cost are others
other_profile : which second_profile first_plan ≡ true ∷ true ∷ true ∷ true ∷ true ∷ true ∷ true ∷ false ∷ true ∷ true ∷ true ∷ false ∷ []
unfolding annuity capital_factor discounted half_year_root operating_factor recovery_factor root_from salvage_fraction
other_profile = refl

-- every value of a kind raised by one of the q parts of a unit
abbrev raised : ℕ → Var → ℤ
raised kind v = if nat_eq v.kind kind then first_plan v +ℤ pos 1 else first_plan v

-- annual trade raised: it alone is no longer its sum
trade_raised : which first_profile (raised TRADE_ANNUAL) ≡ true ∷ true ∷ true ∷ true ∷ true ∷ false ∷ true ∷ true ∷ true ∷ true ∷ true ∷ true ∷ []
unfolding annuity capital_factor discounted half_year_root operating_factor recovery_factor root_from salvage_fraction
trade_raised = refl

-- so these aren't the quantities: what the first region gives the second in the first year is said to be more than its sum
not_traded : ¬ (AreQuantities 6 first_profile q (raised TRADE_ANNUAL))
not_traded are = absurd (omega (arith, ints, (are.1.1.1.1.1.0 (at_rrrfy 0 1 0 0) refl).existing refl))

-- a new capacity raised: all that depends on what is built
capacity_raised : which first_profile (raised NEW_CAPACITY) ≡ true ∷ false ∷ true ∷ true ∷ true ∷ true ∷ true ∷ false ∷ false ∷ true ∷ false ∷ false ∷ []
unfolding annuity capital_factor discounted half_year_root operating_factor recovery_factor root_from salvage_fraction
capacity_raised = refl

-- an activity raised: all that depends on what is run
activity_raised : which first_profile (raised RATE_OF_ACTIVITY) ≡ true ∷ true ∷ false ∷ false ∷ false ∷ true ∷ false ∷ true ∷ false ∷ false ∷ true ∷ false ∷ []
unfolding annuity capital_factor discounted half_year_root operating_factor recovery_factor root_from salvage_fraction
activity_raised = refl
