-- Lists of fractions as plans.
use Rattle.named_equations.proofs.Common.{◌≡◌, ℕ, ℤ, pos, List, [], ◌∷◌, map, refl, Var, Value, common_denominator, whole_at, new_capacity, accumulated_new_capacity, total_capacity_annual, trade}
use Rattle.std.specs.Prelude.{negsuc}

-- the value top over bottom
abbrev value : Var → ℤ → ℕ → Value
value variable top bottom = record { variable = variable; top = top; bottom = bottom }

-- NewCapacity 1/2, AccumulatedNewCapacity 1/3, and a Trade of -3/4
abbrev halves_and_thirds : List Value
halves_and_thirds = value (new_capacity 0 0 0) (pos 1) 2 ∷ value (accumulated_new_capacity 0 0 0) (pos 1) 3 ∷ value (trade 0 1 0 0 0) (negsuc 2) 4 ∷ []

over_24 : common_denominator halves_and_thirds ≡ 24
over_24 = refl

-- 12/24, 8/24, -18/24, and 0 for a variable without a value, and at another index
wholes : map (whole_at halves_and_thirds) (new_capacity 0 0 0 ∷ accumulated_new_capacity 0 0 0 ∷ trade 0 1 0 0 0 ∷ total_capacity_annual 0 0 0 ∷ new_capacity 0 0 1 ∷ [])
    ≡ pos 12 ∷ pos 8 ∷ negsuc 17 ∷ pos 0 ∷ pos 0 ∷ []
wholes = refl

-- no values: everything is 0 over 1
no_values : (v : Var) → whole_at [] v ≡ pos 0
no_values v = refl

over_one : common_denominator [] ≡ 1
over_one = refl
