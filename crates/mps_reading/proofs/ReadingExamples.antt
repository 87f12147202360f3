-- The text of the rows of a worked example, read as MPS, and near misses, in which a premise of the law fails.
use Rattle.mps_reading.proofs.Common.{◌≡◌, ℕ, List, [], ◌∷◌, ◌++◌, refl, digits, SetLists, Sense, Equal, Most, Var, TOTAL_DISCOUNTED_COST, RowContents, Letter, Program, program_of, program_of_contents, rows_text}
use Rattle.std.specs.Prelude.{ℤ, pos, negsuc, codes, None, Some}
use Rattle.row_core.specs.declared.RowName.{RowName}
use Rattle.row_core.specs.Names.{new_capacity, accumulated_new_capacity, total_capacity_annual, caa1, caa2}

abbrev total_discounted_cost : ℕ → ℕ → Var
total_discounted_cost r y = record {
  kind = TOTAL_DISCOUNTED_COST;
  index = record { region = r; other = 0; slice = 0; tech = 0; fuel = 0; emission = 0; mode = 0; year = y };
}

abbrev says : RowName → Sense → List (Var × ℤ) → ℤ → RowContents
says name sense entries rhs = record { name = name; sense = sense; entries = entries; rhs = rhs }

-- two rows, the second of which isn't one of the model: capacity that is built, and at most 7 of it besides a cost
abbrev rows : List RowContents
rows =
    says (caa1 0 0 0) Equal ((new_capacity 0 0 0, negsuc 0) ∷ (accumulated_new_capacity 0 0 0, pos 1) ∷ []) (pos 0)
    ∷ says (caa2 0 0 0) Most ((accumulated_new_capacity 0 0 0, negsuc 11) ∷ (total_discounted_cost 0 0, pos 1) ∷ []) (pos 7)
    ∷ []

abbrev columns : List Var
columns = new_capacity 0 0 0 ∷ accumulated_new_capacity 0 0 0 ∷ total_discounted_cost 0 0 ∷ []

-- one region, one technology and one year, all of these names
abbrev sets : List ℕ → SetLists
sets name = (name ∷ []) ∷ (name ∷ []) ∷ [] ∷ [] ∷ [] ∷ [] ∷ (name ∷ []) ∷ [] ∷ [] ∷ [] ∷ [] ∷ []

-- what they are as a program
abbrev program : Program
program = record {
  costs = (codes "C3", pos 1) ∷ [];
  rows =
      record { name = codes "R1"; sense = Letter.E; entries = (codes "C1", negsuc 0) ∷ (codes "C2", pos 1) ∷ []; right_side = pos 0 }
      ∷ record { name = codes "R2"; sense = Letter.L; entries = (codes "C2", negsuc 11) ∷ (codes "C3", pos 1) ∷ []; right_side = pos 7 }
      ∷ [];
  columns =
      record { name = codes "C1"; least = Some (pos 0) }
      ∷ record { name = codes "C2"; least = Some (pos 0) }
      ∷ record { name = codes "C3"; least = None }
      ∷ [];
}

as_program : program_of_contents rows columns ≡ program
unfolding digits
as_program = refl

reads : program_of (rows_text (sets (codes "X")) rows columns) ≡ Some program
unfolding digits
reads = refl

-- ---- near misses

-- a name with a line feed breaks its comment line in two
broken_names : program_of (rows_text (sets (codes "X\nY")) rows columns) ≡ None
unfolding digits
broken_names = refl

-- a column with no entry but a cost: the text has it, by its line of the row of costs
abbrev one_more : List Var
one_more = columns ++ total_discounted_cost 0 1 ∷ []

costs_alone : program_of (rows_text (sets (codes "X")) rows one_more) ≡ Some (program_of_contents rows one_more)
unfolding digits
costs_alone = refl

-- a column with neither an entry nor a cost, the third of four: no line of the text is its, so that the program that is read has none of this name
unused_column : program_of (rows_text (sets (codes "X")) rows (new_capacity 0 0 0 ∷ accumulated_new_capacity 0 0 0 ∷ total_capacity_annual 0 0 0 ∷ total_discounted_cost 0 0 ∷ [])) ≡ Some (record {
  costs = (codes "C4", pos 1) ∷ [];
  rows =
      record { name = codes "R1"; sense = Letter.E; entries = (codes "C1", negsuc 0) ∷ (codes "C2", pos 1) ∷ []; right_side = pos 0 }
      ∷ record { name = codes "R2"; sense = Letter.L; entries = (codes "C2", negsuc 11) ∷ (codes "C4", pos 1) ∷ []; right_side = pos 7 }
      ∷ [];
  columns =
      record { name = codes "C1"; least = Some (pos 0) }
      ∷ record { name = codes "C2"; least = Some (pos 0) }
      ∷ record { name = codes "C4"; least = None }
      ∷ [];
})
unfolding digits
unused_column = refl
