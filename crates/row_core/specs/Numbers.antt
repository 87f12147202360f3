-- What the entries and the right side of a row keep: the variables ascend, and the numbers aren't 0, lie in range, and have no common divisor.
use Rattle.std.specs.Prelude.{ℕ, ℤ, Bool, true, List, [], ◌∷◌, ◌&&◌, not, ◌==◌, nat_lt, ◌<◌, ◌^◌, unsigned_abs, IsTrue, ⊤}
use Rattle.std.specs.Ordering.{is_lt}
use Rattle.std.specs.declared.cmp.Ordering.{Ordering}
use Rattle.std.specs.Int.{◌∣◌}
use Rattle.row_core.specs.declared.Var.{Var}

-- the keys of entries, in their order: the variables of entries or terms, or the names of multipliers
abbrev pub keys_of : {K A : Type 0} → List (K × A) → List K
keys_of [] = []
keys_of (entry ∷ entries) = entry.0 ∷ keys_of entries

-- the variables of entries or terms, in their order
abbrev pub variables_of : {A : Type 0} → List (Var × A) → List Var
variables_of entries = keys_of entries

-- the numbers of the entries, in their order
abbrev pub numbers_of : {K : Type 0} → List (K × ℤ) → List ℤ
numbers_of [] = []
numbers_of (entry ∷ entries) = entry.1 ∷ numbers_of entries

-- x is before the first of the list, if there is one
abbrev pub before_first : {K : Type 0} → (K → K → Ordering) → K → List K → Bool
before_first cmp x [] = true
before_first cmp x (y ∷ ys) = is_lt (cmp x y)

-- each is before the next
abbrev pub ascends : {K : Type 0} → (K → K → Ordering) → List K → Bool
ascends cmp [] = true
ascends cmp (x ∷ xs) = before_first cmp x xs && ascends cmp xs

-- the number is 0
abbrev pub is_zero : ℤ → Bool
is_zero z = unsigned_abs z == 0

-- every number of the list is 0
abbrev pub all_zero : List ℤ → Bool
all_zero [] = true
all_zero (z ∷ zs) = is_zero z && all_zero zs

-- no number of the list is 0
abbrev pub none_zero : List ℤ → Bool
none_zero [] = true
none_zero (z ∷ zs) = not (is_zero z) && none_zero zs

-- the number lies from -(2^127 - 1) to 2^127 - 1
abbrev pub in_range : ℤ → Bool
in_range z = nat_lt (unsigned_abs z) (2 ^ 127)

-- every number of the list lies in this range
abbrev pub all_in_range : List ℤ → Bool
all_in_range [] = true
all_in_range (z ∷ zs) = in_range z && all_in_range zs

-- d divides every number of the list
abbrev pub DividesAll : ℕ → List ℤ → Type 0
DividesAll d [] = ⊤
DividesAll d (z ∷ zs) = (d ∣ unsigned_abs z) × DividesAll d zs

-- a number above 1 divides all of the list only where all of them are 0
abbrev pub IsLowest : List ℤ → Type 0
IsLowest zs = (d : ℕ) → 1 < d → DividesAll d zs → IsTrue (all_zero zs)
