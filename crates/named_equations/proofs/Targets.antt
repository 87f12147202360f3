-- The base example with a reserve margin, with a renewable target, and with emissions: plans that just meet them, and near misses.
use Rattle.named_equations.proofs.Common.{◌≡◌, ℤ, pos, negsuc, neg_ℤ, true, List, [], ◌∷◌, refl, Some, codes, if◌then◌else◌, nat_eq, Data, discounted, capital_factor, root_from, half_year_root, operating_factor, salvage_fraction, Var, cost}
use Rattle.named_equations.proofs.BaseFile.{sets_of, data_of, base_with, default, given, whole}
use Rattle.named_equations.proofs.Tables.{tabled, meets_all, first_broken}

-- the plan of a table with one value for each kind
abbrev single : List (List ℤ) → Var → ℤ
single table v = tabled (λ i. 0) table v

-- ---- reserve margin

-- a margin of 1.2, and both tags 1
abbrev margin : Data
margin = base_with (default 27 (whole 1) ∷ default 28 (whole 1) ∷ default 29 (pos 1200000000) ∷ [])

-- capacity 12 for an activity of 10
abbrev pub with_margin : List (List ℤ)
with_margin =
    (pos 10 ∷ []) ∷ (pos 12 ∷ []) ∷ []
    ∷ (pos 10 ∷ []) ∷ (pos 12 ∷ []) ∷ (pos 12 ∷ []) ∷ (pos 10 ∷ [])
    ∷ (pos 10 ∷ []) ∷ (pos 10 ∷ []) ∷ (pos 10 ∷ []) ∷ [] ∷ [] ∷ []
    ∷ (pos 10 ∷ []) ∷ [] ∷ (pos 10 ∷ []) ∷ (pos 10 ∷ []) ∷ [] ∷ []
    ∷ (pos 10 ∷ []) ∷ [] ∷ (pos 10 ∷ [])
    ∷ (pos 60 ∷ []) ∷ (pos 60 ∷ []) ∷ [] ∷ []
    ∷ (pos 20 ∷ []) ∷ (pos 12 ∷ []) ∷ (pos 32 ∷ []) ∷ (pos 32 ∷ [])
    ∷ [] ∷ [] ∷ [] ∷ [] ∷ []
    ∷ (pos 92 ∷ []) ∷ (pos 92 ∷ []) ∷ (pos 92 ∷ [])
    ∷ (pos 10 ∷ []) ∷ (pos 10 ∷ [])
    ∷ (pos 12 ∷ []) ∷ (pos 10 ∷ [])
    ∷ (pos 10 ∷ []) ∷ [] ∷ [] ∷ []
    ∷ [] ∷ []
    ∷ []

-- capacity 11 for an activity of 10
abbrev pub without_margin : List (List ℤ)
without_margin =
    (pos 10 ∷ []) ∷ (pos 11 ∷ []) ∷ []
    ∷ (pos 10 ∷ []) ∷ (pos 11 ∷ []) ∷ (pos 11 ∷ []) ∷ (pos 10 ∷ [])
    ∷ (pos 10 ∷ []) ∷ (pos 10 ∷ []) ∷ (pos 10 ∷ []) ∷ [] ∷ [] ∷ []
    ∷ (pos 10 ∷ []) ∷ [] ∷ (pos 10 ∷ []) ∷ (pos 10 ∷ []) ∷ [] ∷ []
    ∷ (pos 10 ∷ []) ∷ [] ∷ (pos 10 ∷ [])
    ∷ (pos 55 ∷ []) ∷ (pos 55 ∷ []) ∷ [] ∷ []
    ∷ (pos 20 ∷ []) ∷ (pos 11 ∷ []) ∷ (pos 31 ∷ []) ∷ (pos 31 ∷ [])
    ∷ [] ∷ [] ∷ [] ∷ [] ∷ []
    ∷ (pos 86 ∷ []) ∷ (pos 86 ∷ []) ∷ (pos 86 ∷ [])
    ∷ (pos 10 ∷ []) ∷ (pos 10 ∷ [])
    ∷ (pos 11 ∷ []) ∷ (pos 10 ∷ [])
    ∷ (pos 10 ∷ []) ∷ [] ∷ [] ∷ []
    ∷ [] ∷ []
    ∷ []

meets_margin : meets_all 6 margin 1 (single with_margin) ≡ true
unfolding discounted capital_factor root_from half_year_root operating_factor salvage_fraction
meets_margin = refl

costs_margin : cost margin (single with_margin) ≡ pos 92
costs_margin = refl

breaks_margin : first_broken 6 margin 1 (single without_margin) ≡ Some 55
unfolding discounted capital_factor root_from half_year_root operating_factor salvage_fraction
breaks_margin = refl

-- ---- renewable target

-- technologies T and U, of which U is dearer and renewable, and a target of one half
abbrev target : Data
target = data_of
    (sets_of (codes "R" ∷ []) (codes "T" ∷ codes "U" ∷ []) (codes "F" ∷ []) [] (codes "1" ∷ []) (codes "D" ∷ []) (codes "2020" ∷ []))
    (given 15 (codes "R" ∷ codes "U" ∷ codes "2020" ∷ []) (whole 10) ∷ given 30 (codes "R" ∷ codes "U" ∷ codes "2020" ∷ []) (whole 1) ∷ [])
    (default 31 (whole 1) ∷ default 32 (pos 500000000) ∷ [])

-- an activity of 5 each; by kind and technology
abbrev pub half_renewable : List (List ℤ)
half_renewable =
    (pos 5 ∷ pos 5 ∷ []) ∷ (pos 5 ∷ pos 5 ∷ []) ∷ []
    ∷ (pos 10 ∷ []) ∷ (pos 5 ∷ pos 5 ∷ []) ∷ (pos 5 ∷ pos 5 ∷ []) ∷ (pos 5 ∷ pos 5 ∷ [])
    ∷ (pos 5 ∷ pos 5 ∷ []) ∷ (pos 5 ∷ pos 5 ∷ []) ∷ (pos 10 ∷ []) ∷ [] ∷ [] ∷ []
    ∷ (pos 10 ∷ []) ∷ [] ∷ (pos 10 ∷ []) ∷ (pos 10 ∷ []) ∷ [] ∷ []
    ∷ (pos 5 ∷ pos 5 ∷ []) ∷ [] ∷ (pos 5 ∷ pos 5 ∷ [])
    ∷ (pos 25 ∷ pos 50 ∷ []) ∷ (pos 25 ∷ pos 50 ∷ []) ∷ [] ∷ []
    ∷ (pos 10 ∷ pos 10 ∷ []) ∷ (pos 5 ∷ pos 5 ∷ []) ∷ (pos 15 ∷ pos 15 ∷ []) ∷ (pos 15 ∷ pos 15 ∷ [])
    ∷ [] ∷ [] ∷ [] ∷ [] ∷ []
    ∷ (pos 40 ∷ pos 65 ∷ []) ∷ (pos 105 ∷ []) ∷ (pos 105 ∷ [])
    ∷ (pos 5 ∷ pos 5 ∷ []) ∷ (pos 5 ∷ pos 5 ∷ [])
    ∷ [] ∷ []
    ∷ (pos 5 ∷ pos 5 ∷ []) ∷ (pos 5 ∷ []) ∷ (pos 10 ∷ []) ∷ []
    ∷ [] ∷ []
    ∷ []

-- an activity of 6 by T and of 4 by U
abbrev pub less_renewable : List (List ℤ)
less_renewable =
    (pos 6 ∷ pos 4 ∷ []) ∷ (pos 6 ∷ pos 4 ∷ []) ∷ []
    ∷ (pos 10 ∷ []) ∷ (pos 6 ∷ pos 4 ∷ []) ∷ (pos 6 ∷ pos 4 ∷ []) ∷ (pos 6 ∷ pos 4 ∷ [])
    ∷ (pos 6 ∷ pos 4 ∷ []) ∷ (pos 6 ∷ pos 4 ∷ []) ∷ (pos 10 ∷ []) ∷ [] ∷ [] ∷ []
    ∷ (pos 10 ∷ []) ∷ [] ∷ (pos 10 ∷ []) ∷ (pos 10 ∷ []) ∷ [] ∷ []
    ∷ (pos 6 ∷ pos 4 ∷ []) ∷ [] ∷ (pos 6 ∷ pos 4 ∷ [])
    ∷ (pos 30 ∷ pos 40 ∷ []) ∷ (pos 30 ∷ pos 40 ∷ []) ∷ [] ∷ []
    ∷ (pos 12 ∷ pos 8 ∷ []) ∷ (pos 6 ∷ pos 4 ∷ []) ∷ (pos 18 ∷ pos 12 ∷ []) ∷ (pos 18 ∷ pos 12 ∷ [])
    ∷ [] ∷ [] ∷ [] ∷ [] ∷ []
    ∷ (pos 48 ∷ pos 52 ∷ []) ∷ (pos 100 ∷ []) ∷ (pos 100 ∷ [])
    ∷ (pos 6 ∷ pos 4 ∷ []) ∷ (pos 6 ∷ pos 4 ∷ [])
    ∷ [] ∷ []
    ∷ (pos 6 ∷ pos 4 ∷ []) ∷ (pos 4 ∷ []) ∷ (pos 10 ∷ []) ∷ []
    ∷ [] ∷ []
    ∷ []

-- the plan of such a table
abbrev by_technology : List (List ℤ) → Var → ℤ
by_technology table v = tabled (λ i. i.tech) table v

meets_target : meets_all 6 target 1 (by_technology half_renewable) ≡ true
unfolding discounted capital_factor root_from half_year_root operating_factor salvage_fraction
meets_target = refl

costs_target : cost target (by_technology half_renewable) ≡ pos 105
costs_target = refl

breaks_target : first_broken 6 target 1 (by_technology less_renewable) ≡ Some 59
unfolding discounted capital_factor root_from half_year_root operating_factor salvage_fraction
breaks_target = refl

-- ---- emissions

-- an emission of which the technology takes up 1 for each activity, at a penalty of 2, with 5 and 4 given off elsewhere in the year and in the model
-- period, and these limits of the year and of the model period
abbrev uptake : ℤ → ℤ → Data
uptake annual_limit period_limit = data_of
    (sets_of (codes "R" ∷ []) (codes "T" ∷ []) (codes "F" ∷ []) (codes "CO2" ∷ []) (codes "1" ∷ []) (codes "D" ∷ []) (codes "2020" ∷ []))
    []
    (default 33 (neg_ℤ (whole 1)) ∷ default 34 (whole 2) ∷ default 35 (whole 5) ∷ default 36 annual_limit
    ∷ default 37 (whole 4) ∷ default 38 period_limit ∷ [])

-- an activity of 10: annual emissions of -10, and of -6 in the model period with what is given off elsewhere
abbrev pub taking_up : List (List ℤ)
taking_up =
    (pos 10 ∷ []) ∷ (pos 10 ∷ []) ∷ []
    ∷ (pos 10 ∷ []) ∷ (pos 10 ∷ []) ∷ (pos 10 ∷ []) ∷ (pos 10 ∷ [])
    ∷ (pos 10 ∷ []) ∷ (pos 10 ∷ []) ∷ (pos 10 ∷ []) ∷ [] ∷ [] ∷ []
    ∷ (pos 10 ∷ []) ∷ [] ∷ (pos 10 ∷ []) ∷ (pos 10 ∷ []) ∷ [] ∷ []
    ∷ (pos 10 ∷ []) ∷ [] ∷ (pos 10 ∷ [])
    ∷ (pos 50 ∷ []) ∷ (pos 50 ∷ []) ∷ [] ∷ []
    ∷ (pos 20 ∷ []) ∷ (pos 10 ∷ []) ∷ (pos 30 ∷ []) ∷ (pos 30 ∷ [])
    ∷ (negsuc 9 ∷ []) ∷ (negsuc 9 ∷ []) ∷ (negsuc 19 ∷ []) ∷ (negsuc 19 ∷ []) ∷ (negsuc 19 ∷ [])
    ∷ (pos 60 ∷ []) ∷ (pos 60 ∷ []) ∷ (pos 60 ∷ [])
    ∷ (pos 10 ∷ []) ∷ (pos 10 ∷ [])
    ∷ [] ∷ []
    ∷ (pos 10 ∷ []) ∷ [] ∷ [] ∷ []
    ∷ (negsuc 9 ∷ []) ∷ (negsuc 5 ∷ [])
    ∷ []

-- -10 is at most -5 - 5, and -6 at most -6
meets_limits : meets_all 6 (uptake (neg_ℤ (whole 5)) (neg_ℤ (whole 6))) 1 (single taking_up) ≡ true
unfolding discounted capital_factor root_from half_year_root operating_factor salvage_fraction
meets_limits = refl

costs_uptake : cost (uptake (neg_ℤ (whole 5)) (neg_ℤ (whole 6))) (single taking_up) ≡ pos 60
costs_uptake = refl

-- limits that are less by one billionth
breaks_annual_limit : first_broken 6 (uptake (negsuc 5000000000) (neg_ℤ (whole 6))) 1 (single taking_up) ≡ Some 63
unfolding discounted capital_factor root_from half_year_root operating_factor salvage_fraction
breaks_annual_limit = refl

breaks_period_limit : first_broken 6 (uptake (neg_ℤ (whole 5)) (negsuc 6000000000)) 1 (single taking_up) ≡ Some 64
unfolding discounted capital_factor root_from half_year_root operating_factor salvage_fraction
breaks_period_limit = refl

-- a limit of -1 is none, though -10 - 5 would be above -2
no_limits : meets_all 6 (uptake (neg_ℤ (whole 1)) (neg_ℤ (whole 1))) 1 (single taking_up) ≡ true
unfolding discounted capital_factor root_from half_year_root operating_factor salvage_fraction
no_limits = refl

-- the emissions of the model period without what is given off elsewhere
without_exogenous : first_broken 6 (uptake (neg_ℤ (whole 5)) (neg_ℤ (whole 6))) 1
    (λ v. if nat_eq v.kind 48 then neg_ℤ (pos 10) else single taking_up v) ≡ Some 62
unfolding discounted capital_factor root_from half_year_root operating_factor salvage_fraction
without_exogenous = refl
