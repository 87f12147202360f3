-- Equations speak of variables that exist and of no others: what they say of any plan is what they say of the plan that has 0 for all variables that
-- don't exist. Computed for the base example, and with two members of each set.
use Rattle.named_equations.proofs.Common.{◌≡◌, ℕ, ℤ, pos, List, [], ◌∷◌, map, refl, if◌then◌else◌, Data, Var, Statement, exists, instances_of, says}
use Rattle.named_equations.proofs.BaseFile.{base}
use Rattle.named_equations.proofs.TwoOfEach.{wide}

-- the plan with 0 for the variables that don't exist
abbrev masked : Data → (Var → ℤ) → Var → ℤ
masked d x v = if exists d v then x v else pos 0

-- what the instances of the equation say
abbrev said_by : Data → (Var → ℤ) → ℕ → List Statement
said_by d x eq = map (says 6 d 1 x) (instances_of d eq)

-- the two say the same
abbrev SaysOfExisting : Data → List ℕ → Type 0
SaysOfExisting d numbers = (x : Var → ℤ) → map (said_by d x) numbers ≡ map (said_by d (masked d x)) numbers

base_1_to_17 : SaysOfExisting base (1 ∷ 2 ∷ 3 ∷ 4 ∷ 5 ∷ 6 ∷ 7 ∷ 8 ∷ 9 ∷ 10 ∷ 11 ∷ 12 ∷ 13 ∷ 14 ∷ 15 ∷ 16 ∷ 17 ∷ [])
base_1_to_17 x = refl

base_18_to_34 : SaysOfExisting base (18 ∷ 19 ∷ 20 ∷ 21 ∷ 22 ∷ 23 ∷ 24 ∷ 25 ∷ 26 ∷ 27 ∷ 28 ∷ 29 ∷ 30 ∷ 31 ∷ 32 ∷ 33 ∷ 34 ∷ [])
base_18_to_34 x = refl

base_35_to_64 : SaysOfExisting base (35 ∷ 36 ∷ 37 ∷ 38 ∷ 39 ∷ 40 ∷ 41 ∷ 42 ∷ 43 ∷ 44 ∷ 45 ∷ 46 ∷ 47 ∷ 48 ∷ 49 ∷ 50 ∷ 51 ∷ 52 ∷ 53 ∷ 54 ∷ 55 ∷ 56 ∷ 57 ∷ 58 ∷ 59 ∷ 60 ∷ 61 ∷ 62 ∷ 63 ∷ 64 ∷ [])
base_35_to_64 x = refl

wide_1_to_4 : SaysOfExisting wide (1 ∷ 2 ∷ 3 ∷ 4 ∷ [])
wide_1_to_4 x = refl

wide_5_to_8 : SaysOfExisting wide (5 ∷ 6 ∷ 7 ∷ 8 ∷ [])
wide_5_to_8 x = refl

wide_9_to_12 : SaysOfExisting wide (9 ∷ 10 ∷ 11 ∷ 12 ∷ [])
wide_9_to_12 x = refl

wide_13_to_16 : SaysOfExisting wide (13 ∷ 14 ∷ 15 ∷ 16 ∷ [])
wide_13_to_16 x = refl

wide_17_to_20 : SaysOfExisting wide (17 ∷ 18 ∷ 19 ∷ 20 ∷ [])
wide_17_to_20 x = refl

wide_21_to_24 : SaysOfExisting wide (21 ∷ 22 ∷ 23 ∷ 24 ∷ [])
wide_21_to_24 x = refl

wide_25_to_28 : SaysOfExisting wide (25 ∷ 26 ∷ 27 ∷ 28 ∷ [])
wide_25_to_28 x = refl

wide_29_to_32 : SaysOfExisting wide (29 ∷ 30 ∷ 31 ∷ 32 ∷ [])
wide_29_to_32 x = refl

wide_33_to_36 : SaysOfExisting wide (33 ∷ 34 ∷ 35 ∷ 36 ∷ [])
wide_33_to_36 x = refl

wide_37_to_40 : SaysOfExisting wide (37 ∷ 38 ∷ 39 ∷ 40 ∷ [])
wide_37_to_40 x = refl

wide_41_to_44 : SaysOfExisting wide (41 ∷ 42 ∷ 43 ∷ 44 ∷ [])
wide_41_to_44 x = refl

wide_45_to_48 : SaysOfExisting wide (45 ∷ 46 ∷ 47 ∷ 48 ∷ [])
wide_45_to_48 x = refl

wide_49_to_52 : SaysOfExisting wide (49 ∷ 50 ∷ 51 ∷ 52 ∷ [])
wide_49_to_52 x = refl

wide_53_to_56 : SaysOfExisting wide (53 ∷ 54 ∷ 55 ∷ 56 ∷ [])
wide_53_to_56 x = refl

wide_57_to_60 : SaysOfExisting wide (57 ∷ 58 ∷ 59 ∷ 60 ∷ [])
wide_57_to_60 x = refl

wide_61_to_64 : SaysOfExisting wide (61 ∷ 62 ∷ 63 ∷ 64 ∷ [])
wide_61_to_64 x = refl
