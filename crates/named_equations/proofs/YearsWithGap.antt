-- The base example over the years 2020, 2021 and 2025, with lives, rates and methods of several kinds: which years count, salvage values, and whole plans.
use Rattle.named_equations.proofs.Common.{◌≡◌, ℕ, ◌^◌, ℤ, pos, true, List, [], ◌∷◌, map, refl, Some, codes, if◌then◌else◌, nat_eq, ◌&&◌, Data, Default, discounted, capital_factor, root_from, half_year_root, operating_factor, salvage_fraction, Var, years_counting, instances_of, name_at, cost, all_years, years_since_first, years_left, years_in_all, has_sv1, has_sv2, has_sv3, capital_factor_of, operating_factor_of, salvage_fraction_of}
use Rattle.named_equations.proofs.BaseFile.{base_sets, data_of, default, whole}
use Rattle.named_equations.proofs.Tables.{tabled, meets_all, first_broken}

-- ---- data

abbrev y2020 : List ℕ
y2020 = codes "2020"

abbrev y2021 : List ℕ
y2021 = codes "2021"

abbrev y2025 : List ℕ
y2025 = codes "2025"

-- the base example with these years and defaults
abbrev over : List (List ℕ) → List Default → Data
over years defaults = data_of (base_sets years) [] defaults

-- the three years in order
abbrev with_gap : List Default → Data
with_gap defaults = over (y2020 ∷ y2021 ∷ y2025 ∷ []) defaults

-- an OperationalLife of so many years
abbrev life : ℕ → Default
life years = default 11 (whole years)

-- a DiscountRate of 0.05
abbrev five_percent : Default
five_percent = default 2 (pos 50000000)

-- DepreciationMethod
abbrev method : ℕ → Default
method number = default 3 (whole number)

-- ---- numbers of years

years_from_first : map (years_since_first (with_gap [])) (0 ∷ 1 ∷ 2 ∷ []) ≡ 0 ∷ 1 ∷ 5 ∷ []
years_from_first = refl

years_to_last : map (years_left (with_gap [])) (0 ∷ 1 ∷ 2 ∷ []) ≡ 6 ∷ 5 ∷ 1 ∷ []
years_to_last = refl

years_with_gap : years_in_all (with_gap []) ≡ 6
years_with_gap = refl

-- the first and the last year needn't stand first and last
years_out_of_order : map (years_since_first (over (y2021 ∷ y2025 ∷ y2020 ∷ []) [])) (0 ∷ 1 ∷ 2 ∷ []) ≡ 1 ∷ 5 ∷ 0 ∷ []
years_out_of_order = refl

-- ---- the years that count

-- the positions of the years that count in each year
abbrev counting : Data → List (List ℕ)
counting d = map (years_counting d 0 0) (all_years d)

-- a capacity doesn't count in the year in which its life is over
life_of_one_year : counting (with_gap (life 1 ∷ [])) ≡ (0 ∷ []) ∷ (1 ∷ []) ∷ (2 ∷ []) ∷ []
life_of_one_year = refl

-- the gap counts in years and not in places
life_of_two_years : counting (with_gap (life 2 ∷ [])) ≡ (0 ∷ []) ∷ (0 ∷ 1 ∷ []) ∷ (2 ∷ []) ∷ []
life_of_two_years = refl

life_up_to_the_gap : counting (with_gap (life 4 ∷ [])) ≡ (0 ∷ []) ∷ (0 ∷ 1 ∷ []) ∷ (2 ∷ []) ∷ []
life_up_to_the_gap = refl

life_over_the_gap : counting (with_gap (life 5 ∷ [])) ≡ (0 ∷ []) ∷ (0 ∷ 1 ∷ []) ∷ (1 ∷ 2 ∷ []) ∷ []
life_over_the_gap = refl

out_of_order : counting (over (y2021 ∷ y2025 ∷ y2020 ∷ []) (life 2 ∷ [])) ≡ (0 ∷ 2 ∷ []) ∷ (1 ∷ []) ∷ (2 ∷ []) ∷ []
out_of_order = refl

-- ---- salvage values

-- which of SV1, SV2 and SV3 stands in each year
abbrev which : Data → List ℕ
which d = map (λ y. if has_sv1 d 0 0 y then 1 else if has_sv2 d 0 0 y then 2 else if has_sv3 d 0 0 y then 3 else 0) (all_years d)

-- a life of 1 never outlasts the last year
salvage_of_one_year : which (with_gap (life 1 ∷ five_percent ∷ [])) ≡ 3 ∷ 3 ∷ 3 ∷ []
salvage_of_one_year = refl

sinking_fund_after_last : which (with_gap (life 2 ∷ five_percent ∷ [])) ≡ 3 ∷ 3 ∷ 1 ∷ []
sinking_fund_after_last = refl

straight_line_after_last : which (with_gap (life 2 ∷ five_percent ∷ method 2 ∷ [])) ≡ 3 ∷ 3 ∷ 2 ∷ []
straight_line_after_last = refl

-- at a rate of 0 the sinking fund is the straight line
sinking_fund_at_rate_zero : which (with_gap (life 2 ∷ [])) ≡ 3 ∷ 3 ∷ 2 ∷ []
sinking_fund_at_rate_zero = refl

straight_line_at_rate_zero : which (with_gap (life 2 ∷ method 2 ∷ [])) ≡ 3 ∷ 3 ∷ 2 ∷ []
straight_line_at_rate_zero = refl

-- what is built in 2021 to last five years ends with 2025, and leaves nothing; what is to last six years leaves a part
ends_with_last : which (with_gap (life 5 ∷ five_percent ∷ [])) ≡ 3 ∷ 3 ∷ 1 ∷ []
ends_with_last = refl

one_year_more : which (with_gap (life 6 ∷ five_percent ∷ [])) ≡ 3 ∷ 1 ∷ 1 ∷ []
one_year_more = refl

-- each year has exactly one of the three equations
one_salvage_value : map (λ eq. instances_of (with_gap (life 6 ∷ five_percent ∷ [])) eq) (27 ∷ 28 ∷ 29 ∷ [])
    ≡ (name_at 27 (record { region = 0; other = 0; slice = 0; tech = 0; fuel = 0; emission = 0; mode = 0; year = 1 })
    ∷ name_at 27 (record { region = 0; other = 0; slice = 0; tech = 0; fuel = 0; emission = 0; mode = 0; year = 2 }) ∷ [])
    ∷ []
    ∷ (name_at 29 (record { region = 0; other = 0; slice = 0; tech = 0; fuel = 0; emission = 0; mode = 0; year = 0 }) ∷ [])
    ∷ []
one_salvage_value = refl

-- ---- written factors

capital_factors : map (capital_factor_of 6 (with_gap (five_percent ∷ [])) 0) (0 ∷ 1 ∷ 5 ∷ 6 ∷ []) ≡ pos 1000000 ∷ pos 952380 ∷ pos 783526 ∷ pos 746215 ∷ []
unfolding discounted capital_factor root_from half_year_root operating_factor salvage_fraction
capital_factors = refl

operating_factors : map (operating_factor_of 6 (with_gap (five_percent ∷ [])) 0) (0 ∷ 1 ∷ 5 ∷ []) ≡ pos 975900 ∷ pos 929428 ∷ pos 764643 ∷ []
unfolding discounted capital_factor root_from half_year_root operating_factor salvage_fraction
operating_factors = refl

salvage_fractions : map (λ number. salvage_fraction_of 6 (with_gap (life 2 ∷ five_percent ∷ [])) number 0 0 2) (1 ∷ 2 ∷ []) ≡ pos 512195 ∷ pos 500000 ∷ []
unfolding discounted capital_factor root_from half_year_root operating_factor salvage_fraction
salvage_fractions = refl

-- ---- whole plans

-- the same value in each of the three years
abbrev pub each_year : ℤ → List ℤ
each_year value = value ∷ value ∷ value ∷ []

-- the best plan at the sinking fund: new capacity 10 in 2020, none in 2021 and 10 in 2025; by kind and year, in units of 10^-12
abbrev pub over_the_gap : List (List ℤ)
over_the_gap =
    each_year (pos 10000000000000) ∷ (pos 10000000000000 ∷ pos 0 ∷ pos 10000000000000 ∷ []) ∷ []
    ∷ each_year (pos 10000000000000) ∷ each_year (pos 10000000000000) ∷ each_year (pos 10000000000000) ∷ each_year (pos 10000000000000)
    ∷ each_year (pos 10000000000000) ∷ each_year (pos 10000000000000) ∷ each_year (pos 10000000000000) ∷ [] ∷ [] ∷ []
    ∷ each_year (pos 10000000000000) ∷ [] ∷ each_year (pos 10000000000000) ∷ each_year (pos 10000000000000) ∷ [] ∷ []
    ∷ each_year (pos 10000000000000) ∷ [] ∷ each_year (pos 10000000000000)
    ∷ (pos 50000000000000 ∷ pos 0 ∷ pos 50000000000000 ∷ []) ∷ (pos 50000000000000 ∷ pos 0 ∷ pos 39176300000000 ∷ []) ∷ (pos 0 ∷ pos 0 ∷ pos 25609750000000 ∷ []) ∷ (pos 0 ∷ pos 0 ∷ pos 19110379596250 ∷ [])
    ∷ each_year (pos 20000000000000) ∷ each_year (pos 10000000000000) ∷ each_year (pos 30000000000000) ∷ (pos 29277000000000 ∷ pos 27882840000000 ∷ pos 22939290000000 ∷ [])
    ∷ [] ∷ [] ∷ [] ∷ [] ∷ []
    ∷ (pos 79277000000000 ∷ pos 27882840000000 ∷ pos 43005210403750 ∷ []) ∷ (pos 79277000000000 ∷ pos 27882840000000 ∷ pos 43005210403750 ∷ []) ∷ (pos 150165050403750 ∷ [])
    ∷ each_year (pos 10000000000000) ∷ (pos 30000000000000 ∷ [])
    ∷ [] ∷ []
    ∷ each_year (pos 10000000000000) ∷ [] ∷ [] ∷ []
    ∷ [] ∷ []
    ∷ []

-- the same at the straight line
abbrev pub by_the_straight_line : List (List ℤ)
by_the_straight_line =
    each_year (pos 10000000000000) ∷ (pos 10000000000000 ∷ pos 0 ∷ pos 10000000000000 ∷ []) ∷ []
    ∷ each_year (pos 10000000000000) ∷ each_year (pos 10000000000000) ∷ each_year (pos 10000000000000) ∷ each_year (pos 10000000000000)
    ∷ each_year (pos 10000000000000) ∷ each_year (pos 10000000000000) ∷ each_year (pos 10000000000000) ∷ [] ∷ [] ∷ []
    ∷ each_year (pos 10000000000000) ∷ [] ∷ each_year (pos 10000000000000) ∷ each_year (pos 10000000000000) ∷ [] ∷ []
    ∷ each_year (pos 10000000000000) ∷ [] ∷ each_year (pos 10000000000000)
    ∷ (pos 50000000000000 ∷ pos 0 ∷ pos 50000000000000 ∷ []) ∷ (pos 50000000000000 ∷ pos 0 ∷ pos 39176300000000 ∷ []) ∷ (pos 0 ∷ pos 0 ∷ pos 25000000000000 ∷ []) ∷ (pos 0 ∷ pos 0 ∷ pos 18655375000000 ∷ [])
    ∷ each_year (pos 20000000000000) ∷ each_year (pos 10000000000000) ∷ each_year (pos 30000000000000) ∷ (pos 29277000000000 ∷ pos 27882840000000 ∷ pos 22939290000000 ∷ [])
    ∷ [] ∷ [] ∷ [] ∷ [] ∷ []
    ∷ (pos 79277000000000 ∷ pos 27882840000000 ∷ pos 43460215000000 ∷ []) ∷ (pos 79277000000000 ∷ pos 27882840000000 ∷ pos 43460215000000 ∷ []) ∷ (pos 150620055000000 ∷ [])
    ∷ each_year (pos 10000000000000) ∷ (pos 30000000000000 ∷ [])
    ∷ [] ∷ []
    ∷ each_year (pos 10000000000000) ∷ [] ∷ [] ∷ []
    ∷ [] ∷ []
    ∷ []

-- the plan of such a table
abbrev yearly : List (List ℤ) → Var → ℤ
yearly table v = tabled (λ i. i.year) table v

-- the data of the two plans
abbrev pub sinking : Data
sinking = with_gap (life 2 ∷ five_percent ∷ [])

abbrev straight : Data
straight = with_gap (life 2 ∷ five_percent ∷ method 2 ∷ [])

meets_over_the_gap : meets_all 6 sinking (10 ^ 12) (yearly over_the_gap) ≡ true
unfolding discounted capital_factor root_from half_year_root operating_factor salvage_fraction
meets_over_the_gap = refl

costs_over_the_gap : cost sinking (yearly over_the_gap) ≡ pos 150165050403750
costs_over_the_gap = refl

meets_by_the_straight_line : meets_all 6 straight (10 ^ 12) (yearly by_the_straight_line) ≡ true
unfolding discounted capital_factor root_from half_year_root operating_factor salvage_fraction
meets_by_the_straight_line = refl

costs_by_the_straight_line : cost straight (yearly by_the_straight_line) ≡ pos 150620055000000
costs_by_the_straight_line = refl

-- each plan breaks the other's salvage value
other_method : first_broken 6 sinking (10 ^ 12) (yearly by_the_straight_line) ≡ Some 27
unfolding discounted capital_factor root_from half_year_root operating_factor salvage_fraction
other_method = refl

other_method_again : first_broken 6 straight (10 ^ 12) (yearly over_the_gap) ≡ Some 28
unfolding discounted capital_factor root_from half_year_root operating_factor salvage_fraction
other_method_again = refl

-- the first plan with another value at this kind and year
abbrev but : ℕ → ℕ → ℤ → Var → ℤ
but kind y value v = if nat_eq v.kind kind && nat_eq v.index.year y then value else yearly over_the_gap v

-- without the half year, at which the operating cost of 2020 would be discounted by nothing
without_half_year : first_broken 6 sinking (10 ^ 12) (but 30 0 (pos 30000000000000)) ≡ Some 34
unfolding discounted capital_factor root_from half_year_root operating_factor salvage_fraction
without_half_year = refl

-- the investment of 2025 discounted by two places and not by five years
places_for_years : first_broken 6 sinking (10 ^ 12) (but 24 2 (pos 45351450000000)) ≡ Some 26
unfolding discounted capital_factor root_from half_year_root operating_factor salvage_fraction
places_for_years = refl

-- the salvage value discounted to the last year, and not past it
one_year_less : first_broken 6 sinking (10 ^ 12) (but 26 2 (pos 20065904978500)) ≡ Some 30
unfolding discounted capital_factor root_from half_year_root operating_factor salvage_fraction
one_year_less = refl

-- the capacity of 2020 counted in 2025 too
counted_too_long : first_broken 6 sinking (10 ^ 12) (but 5 2 (pos 20000000000000)) ≡ Some 2
unfolding discounted capital_factor root_from half_year_root operating_factor salvage_fraction
counted_too_long = refl
