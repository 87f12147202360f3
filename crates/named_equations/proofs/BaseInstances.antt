-- The instances and the variables of the base example, and what other values add to them or take from them.
use Rattle.named_equations.proofs.Common.{◌≡◌, [], ◌∷◌, length, map, refl, index, all_variables, instances, name_at, variable}
use Rattle.named_equations.specs.Table.{named_equations}
use Rattle.named_equations.proofs.BaseFile.{base}

number_of_equations : length named_equations ≡ 64
number_of_equations = refl

-- the 43 instances: each at the only member of each set
instances_of_base : instances base ≡ map (λ eq. name_at eq (index 0 0 0 0 0 0 0 0))
    (1 ∷ 2 ∷ 3 ∷ 4 ∷ 5 ∷ 6 ∷ 7 ∷ 8 ∷ 9 ∷ 12 ∷ 13 ∷ 14 ∷ 15 ∷ 16 ∷ 17 ∷ 18 ∷ 19 ∷ 20 ∷ 21 ∷ 22 ∷ 24 ∷ 25 ∷ 26 ∷ 29 ∷ 30
    ∷ 31 ∷ 32 ∷ 33 ∷ 34 ∷ 38 ∷ 39 ∷ 40 ∷ 41 ∷ 42 ∷ 47 ∷ 50 ∷ 53 ∷ 54 ∷ 55 ∷ 56 ∷ 57 ∷ 58 ∷ 59 ∷ [])
instances_of_base = refl

number_of_instances : length (instances base) ≡ 43
number_of_instances = refl

-- the 39 variables: neither use by technology nor emissions
variables_of_base : all_variables base ≡ map (λ kind. variable kind (index 0 0 0 0 0 0 0 0))
    (1 ∷ 2 ∷ 3 ∷ 4 ∷ 5 ∷ 6 ∷ 7 ∷ 8 ∷ 9 ∷ 10 ∷ 13 ∷ 14 ∷ 15 ∷ 16 ∷ 17 ∷ 18 ∷ 19 ∷ 20 ∷ 22 ∷ 23 ∷ 24 ∷ 25 ∷ 26 ∷ 27 ∷ 28 ∷ 29 ∷ 30
    ∷ 34 ∷ 35 ∷ 36 ∷ 37 ∷ 38 ∷ 39 ∷ 40 ∷ 41 ∷ 42 ∷ 43 ∷ 44 ∷ 45 ∷ [])
variables_of_base = refl

number_of_variables : length (all_variables base) ≡ 39
number_of_variables = refl
