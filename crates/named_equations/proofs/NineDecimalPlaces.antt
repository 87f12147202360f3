-- The base example over 2020, 2021 and 2025 with written factors of nine decimal places: the factors, and the best plan at the sinking fund with its cost.
use Rattle.named_equations.proofs.Common.{◌≡◌, ℕ, ◌*◌, ◌^◌, ℤ, pos, true, List, [], ◌∷◌, map, refl, Some, capital_factor, discounted, half_year_root, operating_factor, root_from, salvage_fraction, Var, CC2, cost, capital_factor_of, operating_factor_of, salvage_fraction_of}
use Rattle.named_equations.proofs.Tables.{first_broken, meets_all, tabled}
use Rattle.named_equations.proofs.YearsWithGap.{each_year, over_the_gap, sinking}

-- ---- factors

capital_factors : map (capital_factor_of 9 sinking 0) (0 ∷ 1 ∷ 5 ∷ 6 ∷ []) ≡ pos 1000000000 ∷ pos 952380952 ∷ pos 783526166 ∷ pos 746215396 ∷ []
unfolding discounted capital_factor
capital_factors = refl

operating_factors : map (operating_factor_of 9 sinking 0) (0 ∷ 1 ∷ 5 ∷ []) ≡ pos 975900072 ∷ pos 929428640 ∷ pos 764643243 ∷ []
unfolding discounted root_from half_year_root operating_factor
operating_factors = refl

salvage_fractions : map (λ number. salvage_fraction_of 9 sinking number 0 0 2) (1 ∷ 2 ∷ []) ≡ pos 512195121 ∷ pos 500000000 ∷ []
unfolding discounted salvage_fraction
salvage_fractions = refl

-- ---- the best plan, over 10^18: new capacity 10 in 2020, none in 2021 and 10 in 2025

-- so many whole units
abbrev whole : ℕ → ℤ
whole n = pos (n * 10 ^ 18)

abbrev values : List (List ℤ)
values =
    each_year (whole 10) ∷ (whole 10 ∷ whole 0 ∷ whole 10 ∷ []) ∷ []
    ∷ each_year (whole 10) ∷ each_year (whole 10) ∷ each_year (whole 10) ∷ each_year (whole 10)
    ∷ each_year (whole 10) ∷ each_year (whole 10) ∷ each_year (whole 10) ∷ [] ∷ [] ∷ []
    ∷ each_year (whole 10) ∷ [] ∷ each_year (whole 10) ∷ each_year (whole 10) ∷ [] ∷ []
    ∷ each_year (whole 10) ∷ [] ∷ each_year (whole 10)
    ∷ (whole 50 ∷ whole 0 ∷ whole 50 ∷ []) ∷ (whole 50 ∷ whole 0 ∷ pos 39176308300000000000 ∷ [])
    ∷ (pos 0 ∷ pos 0 ∷ pos 25609756050000000000 ∷ []) ∷ (pos 0 ∷ pos 0 ∷ pos 19110394252314145800 ∷ [])
    ∷ each_year (whole 20) ∷ each_year (whole 10) ∷ each_year (whole 30) ∷ (pos 29277002160000000000 ∷ pos 27882859200000000000 ∷ pos 22939297290000000000 ∷ [])
    ∷ [] ∷ [] ∷ [] ∷ [] ∷ []
    ∷ (pos 79277002160000000000 ∷ pos 27882859200000000000 ∷ pos 43005211337685854200 ∷ [])
    ∷ (pos 79277002160000000000 ∷ pos 27882859200000000000 ∷ pos 43005211337685854200 ∷ []) ∷ (pos 150165072697685854200 ∷ [])
    ∷ each_year (whole 10) ∷ (whole 30 ∷ [])
    ∷ [] ∷ []
    ∷ each_year (whole 10) ∷ [] ∷ [] ∷ []
    ∷ [] ∷ []
    ∷ []

-- the plan of such a table
abbrev yearly : List (List ℤ) → Var → ℤ
yearly table v = tabled (λ i. i.year) table v

meets : meets_all 9 sinking (10 ^ 18) (yearly values) ≡ true
unfolding discounted capital_factor root_from half_year_root operating_factor salvage_fraction
meets = refl

costs : cost sinking (yearly values) ≡ pos 150165072697685854200
costs = refl

-- each scale's plan breaks the first equation with a factor of the other scale that isn't 1
nine_at_six : first_broken 6 sinking (10 ^ 18) (yearly values) ≡ Some CC2
unfolding discounted capital_factor root_from half_year_root operating_factor salvage_fraction
nine_at_six = refl

six_at_nine : first_broken 9 sinking (10 ^ 12) (yearly over_the_gap) ≡ Some CC2
unfolding discounted capital_factor root_from half_year_root operating_factor salvage_fraction
six_at_nine = refl
