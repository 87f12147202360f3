-- What texts say, computed on a small program with every kind of line, and on near misses.
use Rattle.std.proofs.Common.{◌≡◌, ℕ, true, false, Bool, List, [], ◌∷◌, ◌++◌, refl}
use Rattle.std.specs.Prelude.{ℤ, pos, negsuc, codes, Option, None, Some}
use Rattle.mps_meaning.specs.Programs.{Letter, Program, ProgramColumn, ProgramRow, Numbers}
use Rattle.mps_meaning.specs.Reading.{program_of}
use Rattle.mps_meaning.specs.Statements.{number_of}

-- ---- a program

abbrev row : List ℕ → Letter → Numbers → ℤ → ProgramRow
row name sense entries right = record { name = name; sense = sense; entries = entries; right_side = right }

abbrev bounded : List ℕ → ProgramColumn
bounded name = record { name = name; least = Some (pos 0) }

abbrev unbounded : List ℕ → ProgramColumn
unbounded name = record { name = name; least = None }

-- C2 is the cost, and may be below 0
abbrev pub program : Program
program = record {
  costs = (codes "C2", pos 1) ∷ [];
  rows =
      row (codes "R1") Letter.E ((codes "C1", negsuc 19) ∷ (codes "C2", pos 1) ∷ []) (pos 0)
      ∷ row (codes "R2") Letter.L ((codes "C1", pos 3) ∷ []) (pos 120)
      ∷ row (codes "R3") Letter.G ((codes "C1", pos 1) ∷ (codes "C3", pos 1) ∷ []) (negsuc 6)
      ∷ [];
  columns = bounded (codes "C1") ∷ unbounded (codes "C2") ∷ bounded (codes "C3") ∷ [];
}

abbrev head : List ℕ
head = codes "NAME OSEMOSYS\nROWS\n N COST\n* a comment\n E R1\n L R2\n* another, = and all\n G R3\nCOLUMNS\n"

abbrev columns : List ℕ
columns = codes "* Cost[R]\n C1 R1 -20\n C1 R2 3\n C1 R3 1\n C2 COST 1\n C2 R1 1\n C3 R3 1\n"

abbrev sides : List ℕ
sides = codes "RHS\n RHS R2 120\n RHS R3 -7\n"

abbrev bounds : List ℕ
bounds = codes "BOUNDS\n FR BND C2\n"

abbrev end : List ℕ
end = codes "ENDATA\n"

pub reads : program_of (head ++ columns ++ sides ++ bounds ++ end) ≡ Some program
reads = refl

-- ---- what makes no difference: the name of the program, comments, and how many blanks there are

unnamed : program_of (codes "NAME\nROWS\n  N  COST\n E\tR1\n L R2 \n G R3\nCOLUMNS\n" ++ columns ++ sides ++ bounds ++ codes "* the end\nENDATA") ≡ Some program
unnamed = refl

-- no right side and no bound is given
bare : program_of (codes "NAME\nROWS\n N COST\n L R1\nCOLUMNS\n C1 R1 5\nENDATA\n")
    ≡ Some (record { costs = []; rows = row (codes "R1") Letter.L ((codes "C1", pos 5) ∷ []) (pos 0) ∷ []; columns = bounded (codes "C1") ∷ [] })
bare = refl

-- ---- near misses: texts that say another program

-- the senses of R2 and R3 exchanged
senses_exchanged : program_of (codes "NAME\nROWS\n N COST\n E R1\n G R2\n L R3\nCOLUMNS\n" ++ columns ++ sides ++ bounds ++ end) ≡ Some (record {
  costs = program.costs;
  rows =
      row (codes "R1") Letter.E ((codes "C1", negsuc 19) ∷ (codes "C2", pos 1) ∷ []) (pos 0)
      ∷ row (codes "R2") Letter.G ((codes "C1", pos 3) ∷ []) (pos 120)
      ∷ row (codes "R3") Letter.L ((codes "C1", pos 1) ∷ (codes "C3", pos 1) ∷ []) (negsuc 6)
      ∷ [];
  columns = program.columns;
})
senses_exchanged = refl

-- without FR
bound_left_out : program_of (head ++ columns ++ sides ++ end)
    ≡ Some (record { costs = program.costs; rows = program.rows; columns = bounded (codes "C1") ∷ bounded (codes "C2") ∷ bounded (codes "C3") ∷ [] })
bound_left_out = refl

-- the right side of R2 at R1
side_moved : program_of (head ++ columns ++ codes "RHS\n RHS R1 120\n RHS R3 -7\n" ++ bounds ++ end) ≡ Some (record {
  costs = program.costs;
  rows =
      row (codes "R1") Letter.E ((codes "C1", negsuc 19) ∷ (codes "C2", pos 1) ∷ []) (pos 120)
      ∷ row (codes "R2") Letter.L ((codes "C1", pos 3) ∷ []) (pos 0)
      ∷ row (codes "R3") Letter.G ((codes "C1", pos 1) ∷ (codes "C3", pos 1) ∷ []) (negsuc 6)
      ∷ [];
  columns = program.columns;
})
side_moved = refl

-- a cost as an entry of R2
cost_moved : program_of (head ++ codes " C1 R1 -20\n C1 R2 3\n C1 R3 1\n C2 R2 1\n C2 R1 1\n C3 R3 1\n" ++ sides ++ bounds ++ end) ≡ Some (record {
  costs = [];
  rows =
      row (codes "R1") Letter.E ((codes "C1", negsuc 19) ∷ (codes "C2", pos 1) ∷ []) (pos 0)
      ∷ row (codes "R2") Letter.L ((codes "C1", pos 3) ∷ (codes "C2", pos 1) ∷ []) (pos 120)
      ∷ row (codes "R3") Letter.G ((codes "C1", pos 1) ∷ (codes "C3", pos 1) ∷ []) (negsuc 6)
      ∷ [];
  columns = program.columns;
})
cost_moved = refl

-- ---- near misses: texts that say no program

abbrev with_columns : List ℕ → Option Program
with_columns text = program_of (head ++ text ++ sides ++ bounds ++ end)

entry_twice : with_columns (codes " C1 R1 -20\n C1 R2 3\n C1 R3 1\n C1 R2 3\n C2 COST 1\n C2 R1 1\n C3 R3 1\n") ≡ None
entry_twice = refl

cost_twice : with_columns (codes " C1 R1 -20\n C1 R2 3\n C1 R3 1\n C2 COST 1\n C2 COST 1\n C2 R1 1\n C3 R3 1\n") ≡ None
cost_twice = refl

column_in_two_places : with_columns (codes " C1 R1 -20\n C1 R2 3\n C2 COST 1\n C2 R1 1\n C1 R3 1\n C3 R3 1\n") ≡ None
column_in_two_places = refl

unknown_row : with_columns (codes " C1 R1 -20\n C1 R2 3\n C1 R4 1\n C2 COST 1\n C2 R1 1\n C3 R3 1\n") ≡ None
unknown_row = refl

no_number : with_columns (codes " C1 R1 -20\n C1 R2 3.5\n C1 R3 1\n C2 COST 1\n C2 R1 1\n C3 R3 1\n") ≡ None
no_number = refl

-- three entries with their line feed between the second and the third lost
line_feed_lost : with_columns (codes " C1 R1 -20\n C1 R2 3 C1 R3 1\n C2 COST 1\n C2 R1 1\n C3 R3 1\n") ≡ None
line_feed_lost = refl

row_twice : program_of (codes "NAME\nROWS\n N COST\n E R1\n L R2\n G R3\n G R3\nCOLUMNS\n" ++ columns ++ sides ++ bounds ++ end) ≡ None
row_twice = refl

second_free_row : program_of (codes "NAME\nROWS\n N COST\n E R1\n L R2\n G R3\n N R4\nCOLUMNS\n" ++ columns ++ sides ++ bounds ++ end) ≡ None
second_free_row = refl

side_twice : program_of (head ++ columns ++ codes "RHS\n RHS R2 120\n RHS R2 -7\n" ++ bounds ++ end) ≡ None
side_twice = refl

side_of_unknown_row : program_of (head ++ columns ++ codes "RHS\n RHS R2 120\n RHS R4 -7\n" ++ bounds ++ end) ≡ None
side_of_unknown_row = refl

side_of_costs : program_of (head ++ columns ++ codes "RHS\n RHS COST 120\n" ++ bounds ++ end) ≡ None
side_of_costs = refl

bound_of_unknown : program_of (head ++ columns ++ sides ++ codes "BOUNDS\n FR BND C4\n" ++ end) ≡ None
bound_of_unknown = refl

bound_twice : program_of (head ++ columns ++ sides ++ codes "BOUNDS\n FR BND C2\n FR BND C2\n" ++ end) ≡ None
bound_twice = refl

bound_of_another_kind : program_of (head ++ columns ++ sides ++ codes "BOUNDS\n UP BND C2 7\n" ++ end) ≡ None
bound_of_another_kind = refl

sections_exchanged : program_of (head ++ columns ++ bounds ++ sides ++ end) ≡ None
sections_exchanged = refl

other_section : program_of (head ++ columns ++ sides ++ codes "RANGES\n RNG R2 4\n" ++ bounds ++ end) ≡ None
other_section = refl

no_end : program_of (head ++ columns ++ sides ++ bounds) ≡ None
no_end = refl

text_after_end : program_of (head ++ columns ++ sides ++ bounds ++ end ++ codes " C4 R1 1\n") ≡ None
text_after_end = refl

empty_text : program_of [] ≡ None
empty_text = refl

-- ---- numbers

abbrev reads_as : List ℕ → ℤ → Type 0
reads_as text n = number_of text ≡ Some n

numbers : reads_as (codes "0") (pos 0) × reads_as (codes "-7") (negsuc 6) × reads_as (codes "+12") (pos 12) × reads_as (codes "-0") (pos 0) × reads_as (codes "007") (pos 7)
numbers = (refl, refl, refl, refl, refl)

abbrev is_none : Option ℤ → Bool
is_none None = true
is_none (Some n) = false

abbrev isnt_read : List ℕ → Type 0
isnt_read text = is_none (number_of text) ≡ true

no_numbers : isnt_read (codes "") × isnt_read (codes "-") × isnt_read (codes "1e3") × isnt_read (codes "--1") × isnt_read (codes "1 ")
no_numbers = (refl, refl, refl, refl, refl)
