-- What CSV files tell, computed on a model with one variable, and on near misses.
use Rattle.solver_answers.proofs.Common.{◌≡◌, ℕ, ◌<◌, zero, suc, pos, negsuc, false, List, [], ◌∷◌, Some, None, inl, inr, refl, arith, Float, fin, codes, slice_index_or, lowest, pair, Fields, HasValue, name_of, IsEntry, header, Quotient, Value, Passed, Wrong, IsFound, TableTells, float_of_ratio, Breaks, Gives}
use Rattle.std.specs.Float.Ieee.{add, div, mul, of_bits, of_int}
use Rattle.exact_num.specs.Gcd.{gcd_of, gcd_within}
use Rattle.exact_num.specs.Range.{all_fit, in_range}
use Rattle.scaled_decimals.specs.Digits.{number_of}

abbrev names : List Fields
names = (codes "NewCapacity" ∷ codes "R" ∷ [] ∷ [] ∷ codes "T" ∷ [] ∷ [] ∷ [] ∷ codes "2020" ∷ []) ∷ []

abbrev capacity : Fields
capacity = codes "NewCapacity" ∷ codes "R" ∷ [] ∷ [] ∷ codes "T" ∷ [] ∷ [] ∷ [] ∷ codes "2020" ∷ codes "21/2" ∷ []

-- without its technology, so of no variable of the model
abbrev unknown : Fields
unknown = codes "NewCapacity" ∷ codes "R" ∷ [] ∷ [] ∷ [] ∷ [] ∷ [] ∷ [] ∷ codes "2020" ∷ codes "21/2" ∷ []

-- nine fields
abbrev short : Fields
short = codes "NewCapacity" ∷ codes "R" ∷ [] ∷ [] ∷ codes "T" ∷ [] ∷ [] ∷ [] ∷ codes "2020" ∷ []

abbrev ten_and_a_half : Float
ten_and_a_half = fin false 21 (negsuc 0)

half_of_21 : HasValue (codes "21/2") (pair (pos 21) (pos 2))
unfolding number_of lowest gcd_of gcd_within all_fit in_range
half_of_21 = (record { negative = false; form = Quotient (codes "21") (codes "2") }, record { formed = ((omega arith, refl), (omega arith, refl)); bytes = refl; nonzero = λ e. cc }, refl, refl)

half_as_float : ten_and_a_half ≡ float_of_ratio (pair (pos 21) (pos 2))
unfolding add div mul of_bits of_int
half_as_float = refl

only_place : IsEntry names (name_of capacity) (Some 0)
only_place = (omega arith, refl, λ j within same. omega (arith, within))

nowhere : (j : ℕ) → j < 1 → slice_index_or names j [] ≡ name_of unknown → ⊥
nowhere zero within same = cc
nowhere (suc j) within same = omega (arith, within)

taken : IsFound names capacity (Value 0 ten_and_a_half)
taken = (refl, only_place, (pair (pos 21) (pos 2), half_of_21, half_as_float))

passed : IsFound names unknown Passed
passed = (refl, nowhere, (pair (pos 21) (pos 2), half_of_21))

wrong : IsFound names short Wrong
wrong = inl (λ e. cc)

values : TableTells names (header ∷ capacity ∷ unknown ∷ []) (Gives (Value 0 ten_and_a_half ∷ Passed ∷ []))
values = inr (record { rows = capacity ∷ unknown ∷ []; later = []; founds = Value 0 ten_and_a_half ∷ Passed ∷ []; whole = refl; found = (taken, (passed, tt)); told = refl; through = refl })

-- what stands after a record that breaks the form isn't read
broken : TableTells names (header ∷ unknown ∷ short ∷ capacity ∷ []) (Breaks 3)
broken = inr (record { rows = unknown ∷ short ∷ []; later = capacity ∷ []; founds = Passed ∷ Wrong ∷ []; whole = refl; found = (passed, (wrong, tt)); told = refl; through = tt })

without_header : TableTells names [] (Breaks 1)
without_header = inl (tt, refl)
