-- The definitions of where ratios aren't 0, computed on a worked example: one region, two technologies, one fuel, two modes and two years.
use Rattle.param_tables.proofs.Common.{false, ◌≡◌, ℕ, ◌∷◌, [], List, refl, pos, codes, ℤ, Data, Given, SetLists, whole, nonzero_indices, nonzero_modes, nonzero_technologies, ratio_index, Input, Output, Emission}

two_each : SetLists
two_each =
    (codes "R" ∷ [])
    ∷ (codes "T" ∷ codes "U" ∷ [])
    ∷ (codes "F" ∷ [])
    ∷ (codes "E" ∷ [])
    ∷ (codes "1" ∷ codes "2" ∷ [])
    ∷ (codes "D" ∷ [])
    ∷ (codes "2020" ∷ codes "2021" ∷ [])
    ∷ []
    ∷ []
    ∷ []
    ∷ []
    ∷ []

-- a value of OutputActivityRatio
makes : List ℕ → List ℕ → List ℕ → ℤ → Given
makes t m y v = record { param = 14; index = codes "R" ∷ t ∷ codes "F" ∷ m ∷ y ∷ []; value = v }

-- T makes F in mode 1 of 2020, and 0 of it in mode 2; U makes it in mode 2 of 2021
given : List Given
given = makes (codes "T") (codes "1") (codes "2020") (whole 1) ∷ makes (codes "T") (codes "2") (codes "2020") (pos 0) ∷ makes (codes "U") (codes "2") (codes "2021") (pos 500000000) ∷ []

with_default : ℤ → Data
with_default v = record { sets = two_each; given = given; defaults = record { param = 14; value = v } ∷ []; second = false }

-- ---- where the default is 0

modes_of_T : nonzero_modes (with_default (pos 0)) Output 0 0 0 0 ≡ 0 ∷ []
unfolding with_default two_each given makes
modes_of_T = refl

modes_of_T_later : nonzero_modes (with_default (pos 0)) Output 0 0 0 1 ≡ []
unfolding with_default two_each given makes
modes_of_T_later = refl

modes_of_U_later : nonzero_modes (with_default (pos 0)) Output 0 1 0 1 ≡ 1 ∷ []
unfolding with_default two_each given makes
modes_of_U_later = refl

technologies_first : nonzero_technologies (with_default (pos 0)) Output 0 0 0 ≡ 0 ∷ []
unfolding with_default two_each given makes
technologies_first = refl

technologies_later : nonzero_technologies (with_default (pos 0)) Output 0 0 1 ≡ 1 ∷ []
unfolding with_default two_each given makes
technologies_later = refl

in_all : nonzero_indices (with_default (pos 0)) Output 0 ≡ ratio_index 0 0 0 0 ∷ ratio_index 1 0 1 1 ∷ []
unfolding with_default two_each given makes
in_all = refl

-- ---- where it is 1, a value of 0 is left out

modes_by_default : nonzero_modes (with_default (whole 1)) Output 0 0 0 0 ≡ 0 ∷ []
unfolding with_default two_each given makes
modes_by_default = refl

technologies_by_default : nonzero_technologies (with_default (whole 1)) Output 0 0 0 ≡ 0 ∷ 1 ∷ []
unfolding with_default two_each given makes
technologies_by_default = refl

indices_by_default : nonzero_indices (with_default (whole 1)) Output 0 ≡ ratio_index 0 0 0 0 ∷ ratio_index 0 0 0 1 ∷ ratio_index 0 0 1 1 ∷ ratio_index 1 0 0 0 ∷ ratio_index 1 0 0 1 ∷ ratio_index 1 0 1 0 ∷ ratio_index 1 0 1 1 ∷ []
unfolding with_default two_each given makes
indices_by_default = refl

-- ---- ratios that are neither given nor have a default are 0 nowhere else

none_taken : nonzero_technologies (with_default (pos 0)) Input 0 0 0 ≡ []
unfolding with_default two_each given makes
none_taken = refl

none_given_off : nonzero_indices (with_default (pos 0)) Emission 0 ≡ []
unfolding with_default two_each given makes
none_given_off = refl
