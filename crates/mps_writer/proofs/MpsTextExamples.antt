-- The MPS text, computed on the rows of a worked example, and on near misses.
use Rattle.mps_writer.proofs.Common.{◌≡◌, ℕ, ◌^◌, true, false, Bool, List, [], ◌∷◌, refl, digits, Var, new_capacity, accumulated_new_capacity, total_capacity_annual, caa1, caa2, SetLists, RowContents, mps_text, rows_text, row_lines, column_lines, rhs_line, numbered, bounds}
use Rattle.std.specs.Prelude.{ℤ, pos, negsuc, codes, ◌-◌}
use Rattle.std.specs.Str.{bytes_eq}
use Rattle.row_core.specs.declared.Index.{Index}
use Rattle.row_core.specs.declared.RowName.{RowName}
use Rattle.row_core.specs.declared.Sense.{Sense}
use Rattle.row_core.specs.declared.Sense.TheVariants.{Least, Equal, Most}
use Rattle.row_core.specs.NameTexts.{variable_name, row_name}

-- what a row of this name says
abbrev pub says : RowName → Sense → List (Var × ℤ) → ℤ → RowContents
says name sense entries rhs = record { name = name; sense = sense; entries = entries; rhs = rhs }

-- CAa1 and CAa2 of both years of two years, with residual capacities 7 and 3
abbrev pub caa1_2020 : RowContents
caa1_2020 = says (caa1 0 0 0) Equal ((new_capacity 0 0 0, negsuc 0) ∷ (accumulated_new_capacity 0 0 0, pos 1) ∷ []) (pos 0)

abbrev pub caa1_2021 : RowContents
caa1_2021 = says (caa1 0 0 1) Equal ((new_capacity 0 0 0, negsuc 0) ∷ (new_capacity 0 0 1, negsuc 0) ∷ (accumulated_new_capacity 0 0 1, pos 1) ∷ []) (pos 0)

abbrev pub caa2_2020 : RowContents
caa2_2020 = says (caa2 0 0 0) Equal ((accumulated_new_capacity 0 0 0, negsuc 0) ∷ (total_capacity_annual 0 0 0, pos 1) ∷ []) (pos 7)

abbrev pub caa2_2021 : RowContents
caa2_2021 = says (caa2 0 0 1) Equal ((accumulated_new_capacity 0 0 1, negsuc 0) ∷ (total_capacity_annual 0 0 1, pos 1) ∷ []) (pos 3)

abbrev pub rows : List RowContents
rows = caa1_2020 ∷ caa1_2021 ∷ caa2_2020 ∷ caa2_2021 ∷ []

-- the variables of these rows
abbrev pub columns : List Var
columns =
    new_capacity 0 0 0 ∷ new_capacity 0 0 1 ∷ accumulated_new_capacity 0 0 0 ∷ accumulated_new_capacity 0 0 1
    ∷ total_capacity_annual 0 0 0 ∷ total_capacity_annual 0 0 1 ∷ []

-- one region and one technology, and the years 2020 and 2021
abbrev pub sets : SetLists
sets = (codes "R" ∷ []) ∷ (codes "T" ∷ []) ∷ [] ∷ [] ∷ [] ∷ [] ∷ (codes "2020" ∷ codes "2021" ∷ []) ∷ [] ∷ [] ∷ [] ∷ [] ∷ []

-- ---- names

variable : variable_name sets (new_capacity 0 0 1) ≡ codes "NewCapacity[R,T,2021]"
unfolding digits
variable = refl

row : row_name sets (caa2 0 0 0) ≡ codes "CAa2[R,T,2020]"
unfolding digits
row = refl

-- ---- the whole text

abbrev pub text : List ℕ
text = codes "NAME OSEMOSYS\nROWS\n N COST\n* CAa1[R,T,2020]\n E R1\n* CAa1[R,T,2021]\n E R2\n* CAa2[R,T,2020]\n E R3\n* CAa2[R,T,2021]\n E R4\nCOLUMNS\n* NewCapacity[R,T,2020]\n C1 R1 -1\n C1 R2 -1\n* NewCapacity[R,T,2021]\n C2 R2 -1\n* AccumulatedNewCapacity[R,T,2020]\n C3 R1 1\n C3 R3 -1\n* AccumulatedNewCapacity[R,T,2021]\n C4 R2 1\n C4 R4 -1\n* TotalCapacityAnnual[R,T,2020]\n C5 R3 1\n* TotalCapacityAnnual[R,T,2021]\n C6 R4 1\nRHS\n RHS R3 7\n RHS R4 3\nENDATA\n"

pub whole_text : rows_text sets rows columns ≡ text
unfolding digits
whole_text = refl

-- ---- near misses: the text of other rows is another one

abbrev is_text : List RowContents → List Var → Bool
is_text rows columns = bytes_eq (rows_text sets rows columns) text

itself : is_text rows columns ≡ true
unfolding digits
itself = refl

-- without NewCapacity[R,T,2020] in CAa1[R,T,2021]
entry_left_out : is_text (caa1_2020 ∷ says (caa1 0 0 1) Equal ((new_capacity 0 0 1, negsuc 0) ∷ (accumulated_new_capacity 0 0 1, pos 1) ∷ []) (pos 0)
    ∷ caa2_2020 ∷ caa2_2021 ∷ []) columns ≡ false
unfolding digits
entry_left_out = refl

row_left_out : is_text (caa1_2020 ∷ caa1_2021 ∷ caa2_2020 ∷ []) columns ≡ false
unfolding digits
row_left_out = refl

column_left_out : is_text rows (new_capacity 0 0 0 ∷ new_capacity 0 0 1 ∷ accumulated_new_capacity 0 0 0 ∷ accumulated_new_capacity 0 0 1 ∷ total_capacity_annual 0 0 0 ∷ []) ≡ false
unfolding digits
column_left_out = refl

rows_exchanged : is_text (caa1_2021 ∷ caa1_2020 ∷ caa2_2020 ∷ caa2_2021 ∷ []) columns ≡ false
unfolding digits
rows_exchanged = refl

right_side_negative : is_text (caa1_2020 ∷ caa1_2021 ∷ caa2_2020
    ∷ says (caa2 0 0 1) Equal ((accumulated_new_capacity 0 0 1, negsuc 0) ∷ (total_capacity_annual 0 0 1, pos 1) ∷ []) (negsuc 2) ∷ []) columns ≡ false
unfolding digits
right_side_negative = refl

-- ---- parts that these rows have none of

-- no rows at all
no_rows : mps_text sets [] [] ≡ codes "NAME OSEMOSYS\nROWS\n N COST\nCOLUMNS\nRHS\nENDATA\n"
no_rows = refl

-- two sets in each set that subscripts run over
abbrev both : SetLists
both =
    (codes "A" ∷ codes "B" ∷ []) ∷ (codes "T" ∷ codes "U" ∷ []) ∷ (codes "F" ∷ codes "G" ∷ []) ∷ (codes "CO2" ∷ codes "NOX" ∷ [])
    ∷ (codes "1" ∷ codes "2" ∷ []) ∷ (codes "D" ∷ codes "N" ∷ []) ∷ (codes "2020" ∷ codes "2021" ∷ []) ∷ [] ∷ [] ∷ [] ∷ [] ∷ []

abbrev everywhere : Index
everywhere = record { region = 0; other = 1; slice = 1; tech = 1; fuel = 1; emission = 1; mode = 1; year = 0 }

-- a name has its own subscripts, in the order of the fields
trade_name : variable_name both (record { kind = 3; index = everywhere }) ≡ codes "Trade[A,B,N,G,2020]"
trade_name = refl

mode_name : variable_name both (record { kind = 8; index = everywhere }) ≡ codes "RateOfProductionByTechnologyByMode[A,N,U,G,2,2020]"
mode_name = refl

emission_name : row_name both (record { eq = 35; index = everywhere }) ≡ codes "E1[A,U,NOX,2,2020]"
emission_name = refl

region_name : row_name both (record { eq = 42; index = everywhere }) ≡ codes "Acc4[A]"
region_name = refl

-- a technology and no emission, where their places could be mistaken
capacity_name : variable_name both (record { kind = 2; index = everywhere }) ≡ codes "NewCapacity[A,U,2020]"
capacity_name = refl

-- each sense has its letter, also with a row number of two digits
least_line : row_lines sets (1, says (caa1 0 0 0) Least ((new_capacity 0 0 0, pos 1) ∷ []) (pos 0)) ≡ codes "* CAa1[R,T,2020]\n G R1\n"
unfolding digits
least_line = refl

most_line : row_lines sets (12, says (caa1 0 0 0) Most ((new_capacity 0 0 0, pos 1) ∷ []) (pos 0)) ≡ codes "* CAa1[R,T,2020]\n L R12\n"
unfolding digits
most_line = refl

-- a right side below 0, the greatest one, and 0
negative_right : rhs_line (3, says (caa1 0 0 0) Equal ((new_capacity 0 0 0, pos 1) ∷ []) (negsuc 9)) ≡ codes " RHS R3 -10\n"
unfolding digits
negative_right = refl

greatest_right : rhs_line (4, says (caa1 0 0 0) Equal ((new_capacity 0 0 0, pos 1) ∷ []) (pos (2 ^ 127 - 1))) ≡ codes " RHS R4 170141183460469231731687303715884105727\n"
unfolding digits
greatest_right = refl

zero_right : rhs_line (3, caa1_2020) ≡ []
zero_right = refl

-- TotalDiscountedCost is free, and the cost
cost_column : column_lines both [] (11, record { kind = 37; index = everywhere }) ≡ codes "* TotalDiscountedCost[A,2020]\n C11 COST 1\n"
unfolding digits
cost_column = refl

-- bounds for the free columns alone, under one head
free_bounds : bounds ((1, new_capacity 0 0 0) ∷ (2, record { kind = 3; index = everywhere }) ∷ (3, total_capacity_annual 0 0 0) ∷ (4, record { kind = 37; index = everywhere }) ∷ []) ≡ codes "BOUNDS\n FR BND C2\n FR BND C4\n"
unfolding digits
free_bounds = refl

-- and no head where none is free
no_bounds : bounds (numbered columns) ≡ []
no_bounds = refl
