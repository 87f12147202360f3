-- Rows for examples, with parts of one's own choice. A row keeps its entries in a vector: that of these rows is a given one, with other items.
use Rattle.written_method.proofs.Common.{◌≡◌, ℕ, ◌≤◌, ℤ, Bool, true, ◌&&◌, List, ◌∷◌, length, refl, arith, leb-true, Vec, nat_le, and_parts, Row, RowName, Sense, Var, var_cmp}
use Rattle.row_core.specs.Numbers.{all_in_range, ascends, none_zero, numbers_of, variables_of}
use Rattle.row_core.proofs.RowLaws.{IsLowest-unit, has_unit}

-- how many entries the vector has room for
abbrev pub room : ℕ
room = 64

-- entries and a right side are those of a row: they ascend, none is 0, all are in range, and one of the numbers is 1 or -1
abbrev pub make_row : List (Var × ℤ) → ℤ → Bool
make_row es right =
    nat_le (length es) room
    && (ascends var_cmp (variables_of es) && (none_zero (numbers_of es) && (all_in_range (right ∷ numbers_of es) && has_unit (right ∷ numbers_of es))))

-- the vector with these items
abbrev pub with_entries : Vec (Var × ℤ) → (es : List (Var × ℤ)) → length es ≤ room → Vec (Var × ℤ)
with_entries v es fit = record v { items = es; len = length es; cap = room; ok = (refl, fit); small = omega arith }

-- the row
abbrev pub made_row : Vec (Var × ℤ) → RowName → Sense → (es : List (Var × ℤ)) (right : ℤ) → make_row es right ≡ true → Row
made_row v name sense es right make =
    let short = and_parts (nat_le (length es) room) (ascends var_cmp (variables_of es) && (none_zero (numbers_of es) && (all_in_range (right ∷ numbers_of es) && has_unit (right ∷ numbers_of es)))) make in
    let up = and_parts (ascends var_cmp (variables_of es)) (none_zero (numbers_of es) && (all_in_range (right ∷ numbers_of es) && has_unit (right ∷ numbers_of es))) short.1 in
    let some = and_parts (none_zero (numbers_of es)) (all_in_range (right ∷ numbers_of es) && has_unit (right ∷ numbers_of es)) up.1 in
    let within = and_parts (all_in_range (right ∷ numbers_of es)) (has_unit (right ∷ numbers_of es)) some.1 in
    record {
      name = name;
      sense = sense;
      entries = with_entries v es (leb-true (length es) room short.0);
      rhs = right;
      ascending = up.0;
      nonzero = some.0;
      fits = within.0;
      lowest = IsLowest-unit (right ∷ numbers_of es) within.1;
    }
