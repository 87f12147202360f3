-- Where the limits stand: -1 and 0 as "no limit".
use Rattle.named_equations.proofs.Common.{◌≡◌, ℕ, ℤ, pos, negsuc, List, [], ◌∷◌, length, map, refl, instances_of}
use Rattle.named_equations.proofs.BaseFile.{base_with, default, whole, minus_one}

-- how many instances the equation has in the base example, where the parameter has each of these values
abbrev standing : ℕ → ℕ → List ℤ → List ℕ
standing eq param values = map (λ value. length (instances_of (base_with (default param value ∷ [])) eq)) values

-- -1, one billionth below and above it, 0, a billionth, and 5
abbrev tried : List ℤ
tried = minus_one ∷ negsuc 1000000000 ∷ negsuc 999999998 ∷ pos 0 ∷ pos 1 ∷ whole 5 ∷ []

greatest_capacity : standing 43 19 tried ≡ 0 ∷ 1 ∷ 1 ∷ 1 ∷ 1 ∷ 1 ∷ []
greatest_capacity = refl

least_capacity : standing 44 20 tried ≡ 0 ∷ 0 ∷ 0 ∷ 0 ∷ 1 ∷ 1 ∷ []
least_capacity = refl

greatest_new_capacity : standing 45 21 tried ≡ 0 ∷ 1 ∷ 1 ∷ 1 ∷ 1 ∷ 1 ∷ []
greatest_new_capacity = refl

least_new_capacity : standing 46 22 tried ≡ 0 ∷ 0 ∷ 0 ∷ 0 ∷ 1 ∷ 1 ∷ []
least_new_capacity = refl

-- an annual limit of 0 allows no activity
greatest_annual_activity : standing 48 23 tried ≡ 0 ∷ 1 ∷ 1 ∷ 1 ∷ 1 ∷ 1 ∷ []
greatest_annual_activity = refl

least_annual_activity : standing 49 24 tried ≡ 0 ∷ 0 ∷ 0 ∷ 0 ∷ 1 ∷ 1 ∷ []
least_annual_activity = refl

-- a limit of 0 for the whole model period is none
greatest_activity : standing 51 25 tried ≡ 0 ∷ 0 ∷ 0 ∷ 0 ∷ 1 ∷ 1 ∷ []
greatest_activity = refl

least_activity : standing 52 26 tried ≡ 0 ∷ 0 ∷ 0 ∷ 0 ∷ 1 ∷ 1 ∷ []
least_activity = refl
