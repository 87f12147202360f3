-- The rows of one equation among three, computed; and near misses.
use Rattle.row_core.proofs.Common.{◌≡◌, true, false, List, [], ◌∷◌, refl, arith, RowName, Var, accumulated_new_capacity, caa1, caa2, new_capacity, total_capacity_annual, RowContents, AreInOrder, has_kind, rows_of_equation}
use Rattle.std.specs.Prelude.{ℤ, pos, negsuc}
use Rattle.row_core.specs.declared.Sense.TheVariants.{Equal}

abbrev says : RowName → List (Var × ℤ) → RowContents
says name entries = record { name = name; sense = Equal; entries = entries; rhs = pos 0 }

-- CAa1 of two years, equation 2, and CAa2 of the first, equation 3
abbrev first : RowContents
first = says (caa1 0 0 0) ((new_capacity 0 0 0, negsuc 0) ∷ (accumulated_new_capacity 0 0 0, pos 1) ∷ [])

abbrev second : RowContents
second = says (caa1 0 0 1) ((new_capacity 0 0 0, negsuc 0) ∷ (accumulated_new_capacity 0 0 1, pos 1) ∷ [])

abbrev third : RowContents
third = says (caa2 0 0 0) ((accumulated_new_capacity 0 0 0, negsuc 0) ∷ (total_capacity_annual 0 0 0, pos 1) ∷ [])

abbrev rows : List RowContents
rows = first ∷ second ∷ third ∷ []

-- positions count through all rows
of_two : rows_of_equation 2 rows ≡ (1, first) ∷ (2, second) ∷ []
of_two = refl

of_three : rows_of_equation 3 rows ≡ (3, third) ∷ []
of_three = refl

of_one : rows_of_equation 1 rows ≡ []
of_one = refl

-- NewCapacity is of kind 2: CAa1 has it, and CAa2 not
has_new : has_kind 2 2 rows ≡ true
has_new = refl

has_none : has_kind 3 2 rows ≡ false
has_none = refl

in_order : AreInOrder rows
in_order = ((omega arith, (omega arith, tt)), ((omega arith, tt), (tt, tt)))

-- a row after one of a later equation isn't in order
out_of_order : AreInOrder (third ∷ first ∷ []) → ⊥
out_of_order order = omega (arith, order.0.0)
