-- How many instances each equation has in the realistic example with five years, 2183 in all, of which 280 are inequalities, and how many variables of
-- each kind exist, 2053 in all.
use Rattle.named_equations.proofs.Common.{◌≡◌, ℕ, pos, Bool, true, false, List, [], ◌∷◌, length, map, filter, refl, discounted, capital_factor, root_from, half_year_root, operating_factor, salvage_fraction, Sense, Least, Equal, Most, variables_of_kind, kind_numbers, definers, index, instances_of, equation_of, equation_numbers}
use Rattle.named_equations.proofs.MadeFile.{made}

-- how many instances these equations have
abbrev counts : List ℕ → List ℕ
counts numbers = map (λ eq. length (instances_of (made 5) eq)) numbers

demand_and_capacity : counts (1 ∷ 2 ∷ 3 ∷ 4 ∷ 5 ∷ 6 ∷ []) ≡ 80 ∷ 30 ∷ 30 ∷ 120 ∷ 120 ∷ 30 ∷ []
demand_and_capacity = refl

production_by_mode : counts (7 ∷ []) ≡ 120 ∷ []
production_by_mode = refl

production_by_technology : counts (8 ∷ []) ≡ 120 ∷ []
production_by_technology = refl

use_by_mode : counts (10 ∷ []) ≡ 60 ∷ []
use_by_mode = refl

use_by_technology : counts (11 ∷ []) ≡ 60 ∷ []
use_by_technology = refl

balance : counts (9 ∷ 12 ∷ 13 ∷ 14 ∷ 15 ∷ 16 ∷ 17 ∷ 18 ∷ 19 ∷ 20 ∷ 21 ∷ []) ≡ 80 ∷ 80 ∷ 80 ∷ 80 ∷ 80 ∷ 80 ∷ 80 ∷ 20 ∷ 20 ∷ 20 ∷ 20 ∷ []
balance = refl

accounted_production : counts (22 ∷ []) ≡ 120 ∷ []
accounted_production = refl

accounted_use : counts (23 ∷ []) ≡ 60 ∷ []
accounted_use = refl

costs : counts (24 ∷ 25 ∷ 26 ∷ 30 ∷ 31 ∷ 32 ∷ 33 ∷ 34 ∷ 40 ∷ 41 ∷ 42 ∷ []) ≡ 30 ∷ 30 ∷ 30 ∷ 30 ∷ 30 ∷ 30 ∷ 30 ∷ 30 ∷ 30 ∷ 5 ∷ 1 ∷ []
costs = refl

-- everything outlasts the model period, at a rate above 0: SV1 alone
salvage : counts (27 ∷ 28 ∷ 29 ∷ []) ≡ 30 ∷ 0 ∷ 0 ∷ []
salvage = refl

emissions : counts (35 ∷ 36 ∷ 37 ∷ 38 ∷ 39 ∷ 61 ∷ 62 ∷ 63 ∷ 64 ∷ []) ≡ 15 ∷ 30 ∷ 30 ∷ 30 ∷ 30 ∷ 5 ∷ 1 ∷ 0 ∷ 0 ∷ []
emissions = refl

-- one technology has a greatest capacity
capacity_limits : counts (43 ∷ 44 ∷ 45 ∷ 46 ∷ []) ≡ 5 ∷ 0 ∷ 0 ∷ 0 ∷ []
capacity_limits = refl

activity_limits : counts (47 ∷ 48 ∷ 49 ∷ 50 ∷ 51 ∷ 52 ∷ []) ≡ 30 ∷ 0 ∷ 0 ∷ 6 ∷ 0 ∷ 0 ∷ []
activity_limits = refl

margin_and_target : counts (53 ∷ 54 ∷ 55 ∷ 56 ∷ 57 ∷ 58 ∷ 59 ∷ 60 ∷ []) ≡ 5 ∷ 20 ∷ 20 ∷ 30 ∷ 5 ∷ 5 ∷ 5 ∷ 15 ∷ []
margin_and_target = refl

-- ---- variables: 2053 in all

-- how many variables of these kinds there are
abbrev variables : List ℕ → List ℕ
variables kinds = map (λ kind. length (variables_of_kind (made 5) kind)) kinds

chosen_and_capacity : variables (1 ∷ 2 ∷ 3 ∷ 4 ∷ 5 ∷ 6 ∷ 7 ∷ []) ≡ 120 ∷ 30 ∷ 80 ∷ 80 ∷ 30 ∷ 30 ∷ 120 ∷ []
chosen_and_capacity = refl

rates_of_production_by_mode : variables (8 ∷ []) ≡ 120 ∷ []
rates_of_production_by_mode = refl

rates_of_production : variables (9 ∷ 10 ∷ []) ≡ 120 ∷ 80 ∷ []
rates_of_production = refl

rates_of_use_by_mode : variables (11 ∷ []) ≡ 60 ∷ []
rates_of_use_by_mode = refl

rates_of_use : variables (12 ∷ 13 ∷ []) ≡ 60 ∷ 80 ∷ []
rates_of_use = refl

balances : variables (14 ∷ 15 ∷ 16 ∷ 17 ∷ 18 ∷ 19 ∷ []) ≡ 80 ∷ 80 ∷ 80 ∷ 20 ∷ 20 ∷ 20 ∷ []
balances = refl

production_in_slices : variables (20 ∷ []) ≡ 120 ∷ []
production_in_slices = refl

use_in_slices : variables (21 ∷ 22 ∷ []) ≡ 60 ∷ 30 ∷ []
use_in_slices = refl

-- one salvage value for each region, technology and year, though three equations define it
costs_of_technologies : variables (23 ∷ 24 ∷ 25 ∷ 26 ∷ 27 ∷ 28 ∷ 29 ∷ 30 ∷ []) ≡ 30 ∷ 30 ∷ 30 ∷ 30 ∷ 30 ∷ 30 ∷ 30 ∷ 30 ∷ []
costs_of_technologies = refl

emissions_and_costs : variables (31 ∷ 32 ∷ 33 ∷ 34 ∷ 35 ∷ 36 ∷ 37 ∷ 38 ∷ []) ≡ 15 ∷ 30 ∷ 30 ∷ 30 ∷ 30 ∷ 30 ∷ 5 ∷ 1 ∷ []
emissions_and_costs = refl

activities_and_targets : variables (39 ∷ 40 ∷ 41 ∷ 42 ∷ 43 ∷ 44 ∷ 45 ∷ 46 ∷ 47 ∷ 48 ∷ []) ≡ 30 ∷ 6 ∷ 5 ∷ 20 ∷ 30 ∷ 5 ∷ 5 ∷ 15 ∷ 5 ∷ 1 ∷ []
activities_and_targets = refl

-- ---- inequalities

-- the sign isn't =
abbrev differs : Sense → Bool
differs Least = true
differs Equal = false
differs Most = true

-- whether the equation of this number is an inequality
abbrev is_inequality : ℕ → Bool
is_inequality eq = differs ((equation_of eq).says 6 (made 5) 1 (λ v. pos 0) (index 0 0 0 0 0 0 0 0)).sign

-- of them CAa4, CAb1, EBa11, EBb4, TCC1, RM3 and RE4 have instances here: 120 + 30 + 80 + 20 + 5 + 20 + 5 are 280
inequalities : filter is_inequality equation_numbers ≡ 5 ∷ 6 ∷ 17 ∷ 21 ∷ 43 ∷ 44 ∷ 45 ∷ 46 ∷ 48 ∷ 49 ∷ 51 ∷ 52 ∷ 55 ∷ 59 ∷ 63 ∷ 64 ∷ []
unfolding discounted capital_factor root_from half_year_root operating_factor salvage_fraction
inequalities = refl

-- ---- definers

-- which equations define each kind
defined_by : map definers kind_numbers ≡ [] ∷ [] ∷ (16 ∷ []) ∷ (1 ∷ []) ∷ (2 ∷ []) ∷ (3 ∷ []) ∷ (4 ∷ []) ∷ (7 ∷ []) ∷ (8 ∷ []) ∷ (9 ∷ []) ∷ (10 ∷ []) ∷ (11 ∷ [])
    ∷ (12 ∷ []) ∷ (13 ∷ []) ∷ (14 ∷ []) ∷ (15 ∷ []) ∷ (18 ∷ []) ∷ (19 ∷ []) ∷ (20 ∷ []) ∷ (22 ∷ []) ∷ (23 ∷ []) ∷ (24 ∷ []) ∷ (25 ∷ []) ∷ (26 ∷ [])
    ∷ (27 ∷ 28 ∷ 29 ∷ []) ∷ (30 ∷ []) ∷ (31 ∷ []) ∷ (32 ∷ []) ∷ (33 ∷ []) ∷ (34 ∷ []) ∷ (35 ∷ []) ∷ (36 ∷ []) ∷ (37 ∷ []) ∷ (38 ∷ []) ∷ (39 ∷ []) ∷ (40 ∷ [])
    ∷ (41 ∷ []) ∷ (42 ∷ []) ∷ (47 ∷ []) ∷ (50 ∷ []) ∷ (53 ∷ []) ∷ (54 ∷ []) ∷ (56 ∷ []) ∷ (57 ∷ []) ∷ (58 ∷ []) ∷ (60 ∷ []) ∷ (61 ∷ []) ∷ (62 ∷ []) ∷ []
defined_by = refl
