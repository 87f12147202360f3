-- The definitions, computed on a model with one member in each set, and on near misses.
use Rattle.plan_files.proofs.Common.{◌≡◌, pos, false, List, [], ◌∷◌, Some, None, inl, inr, refl, arith, codes, next_record, records_from, strip_bom, fields_text, is_blank, gcd_of, gcd_within, all_fit, in_range, lowest, pair, SetLists, RowName, Var, Quotient, fraction_text, BadRecord, Missing, Twice, Breaks, BreaksFirst, IsPlan, IsPlanFault, first_missing, variable_names, Fields, HasValue, IsRight, records_of, header, plan_records, row_fields, variable_fields, records_text}
use Rattle.std.specs.Fmt.{digits}
use Rattle.row_core.specs.declared.equation_numbers.TheConstants.{CAA4}
use Rattle.row_core.specs.declared.kind_numbers.TheConstants.{NEW_CAPACITY}
use Rattle.scaled_decimals.specs.Digits.{number_of}

abbrev sets : SetLists
sets = (codes "R" ∷ []) ∷ (codes "T" ∷ []) ∷ (codes "F" ∷ []) ∷ [] ∷ (codes "1" ∷ []) ∷ (codes "D" ∷ []) ∷ (codes "2020" ∷ []) ∷ [] ∷ [] ∷ [] ∷ [] ∷ []

abbrev capacity : Var
capacity = record { kind = NEW_CAPACITY; index = record { region = 0; other = 0; slice = 0; tech = 0; fuel = 0; emission = 0; mode = 0; year = 0 } }

abbrev within_capacity : RowName
within_capacity = record { eq = CAA4; index = record { region = 0; other = 0; slice = 0; tech = 0; fuel = 0; emission = 0; mode = 0; year = 0 } }

-- ---- names

capacity_fields : variable_fields sets capacity ≡ codes "NewCapacity" ∷ codes "R" ∷ [] ∷ [] ∷ codes "T" ∷ [] ∷ [] ∷ [] ∷ codes "2020" ∷ []
capacity_fields = refl

equation_fields : row_fields sets within_capacity ≡ codes "CAa4" ∷ codes "R" ∷ [] ∷ codes "D" ∷ codes "T" ∷ [] ∷ [] ∷ [] ∷ codes "2020" ∷ []
equation_fields = refl

-- ---- texts

plan_as_text : records_text (plan_records sets ((capacity, pair (pos 21) (pos 2)) ∷ [])) ≡ codes "NAME,REGION,REGION2,TIMESLICE,TECHNOLOGY,FUEL,EMISSION,MODE,YEAR,VALUE\nNewCapacity,R,,,T,,,,2020,21/2\n"
unfolding fields_text is_blank fraction_text digits
plan_as_text = refl

abbrev capacity_record : Fields
capacity_record = codes "NewCapacity" ∷ codes "R" ∷ [] ∷ [] ∷ codes "T" ∷ [] ∷ [] ∷ [] ∷ codes "2020" ∷ codes "21/2" ∷ []

-- quotes, blank lines and a last line without an end
records_read : records_of (codes "NAME,REGION,REGION2,TIMESLICE,TECHNOLOGY,FUEL,EMISSION,MODE,YEAR,VALUE\r\n\r\n\"NewCapacity\",R,,,T,,,,2020,21/2") ≡ header ∷ capacity_record ∷ []
unfolding next_record records_from strip_bom
records_read = refl

no_records : records_of [] ≡ []
unfolding next_record records_from strip_bom
no_records = refl

-- ---- values

half_of_21 : HasValue (codes "21/2") (pair (pos 21) (pos 2))
unfolding number_of lowest gcd_of gcd_within all_fit in_range
half_of_21 = (record { negative = false; form = Quotient (codes "21") (codes "2") }, record { formed = ((omega arith, refl), (omega arith, refl)); bytes = refl; nonzero = λ e. cc }, refl, refl)

-- ---- plans and faults

abbrev names : List Fields
names = variable_names sets (capacity ∷ [])

right : IsRight names [] capacity_record
right = record { ten = refl; known = (0, omega arith, refl); once = refl; value = pair (pos 21) (pos 2); exact = half_of_21 }

one_plan : IsPlan sets (capacity ∷ []) (header ∷ capacity_record ∷ []) ((capacity, pair (pos 21) (pos 2)) ∷ [])
one_plan =
    record {
      rows = capacity_record ∷ [];
      form = record { whole = refl; right = (right, tt) };
      variables = refl;
      values = ((pair (pos 21) (pos 2), refl, half_of_21), tt);
    }

no_header : BreaksFirst names [] (BadRecord 1)
no_header = inl (tt, refl)

-- nine fields
one_field_less : Breaks names [] (codes "NewCapacity" ∷ codes "R" ∷ [] ∷ [] ∷ codes "T" ∷ [] ∷ [] ∷ [] ∷ codes "2020" ∷ []) (BadRecord 2)
one_field_less = (refl, λ e. cc)

-- the same record again: its value isn't looked at
named_twice : Breaks names (capacity_record ∷ []) (codes "NewCapacity" ∷ codes "R" ∷ [] ∷ [] ∷ codes "T" ∷ [] ∷ [] ∷ [] ∷ codes "2020" ∷ codes "1/0" ∷ []) (Twice 3)
named_twice = (refl, refl, (0, omega arith, refl), refl)

none_given : first_missing sets [] (capacity ∷ []) ≡ Some capacity
none_given = refl

all_given : first_missing sets (capacity_record ∷ []) (capacity ∷ []) ≡ None
all_given = refl

-- a file of the header alone
header_alone : IsPlanFault sets (capacity ∷ []) (header ∷ []) (Missing capacity)
header_alone = inr (record { rows = []; form = record { whole = refl; right = tt }; v = capacity; first = none_given; missing = refl })
