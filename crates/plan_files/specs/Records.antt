-- The records of plans and of multipliers: a name, the members of its subscripts, and a value.
use Rattle.std.specs.Prelude.{◌≡◌, ℕ, Bool, true, false, List, [], ◌∷◌, ◌++◌, map, filter, not, codes, slice_index_or, if◌then◌else◌}
use Rattle.std.specs.List.{AllByRecursion}
use Rattle.exact_num.specs.Rational.{Rational}
use Rattle.model_sets.specs.Members.{SetLists}
use Rattle.row_core.specs.declared.Index.{Index}
use Rattle.row_core.specs.declared.RowName.{RowName}
use Rattle.row_core.specs.declared.Var.{Var}
use Rattle.row_core.specs.Equations.{equation_has, word_of_equation}
use Rattle.row_core.specs.Kinds.{kind_has, word_of_kind}
use Rattle.row_core.specs.NameTexts.{member, IsWithin}
use Rattle.row_core.specs.Numbers.{is_zero}
use Rattle.scaled_decimals.specs.PrintedFraction.{fraction_text}

-- the first record
abbrev pub header : List (List ℕ)
header =
    codes "NAME" ∷ codes "REGION" ∷ codes "REGION2" ∷ codes "TIMESLICE" ∷ codes "TECHNOLOGY" ∷ codes "FUEL" ∷ codes "EMISSION" ∷ codes "MODE" ∷ codes "YEAR"
    ∷ codes "VALUE" ∷ []

-- the places of the subscripts among the fields of `Index`
abbrev pub places : List ℕ
places = 0 ∷ 1 ∷ 2 ∷ 3 ∷ 4 ∷ 5 ∷ 6 ∷ 7 ∷ []

-- the field of the subscript at a place: the member that it stands for, and nothing where there is no such subscript
abbrev pub subscript_field : SetLists → (ℕ → Bool) → Index → ℕ → List ℕ
subscript_field sets has i place = if has place then member sets i place else []

-- the fields of all subscripts, in the order of their places
abbrev pub subscript_fields : SetLists → (ℕ → Bool) → Index → List (List ℕ)
subscript_fields sets has i = map (subscript_field sets has i) places

-- the first nine fields of a variable, and of a row: its word, and its subscripts
abbrev pub variable_fields : SetLists → Var → List (List ℕ)
variable_fields sets v = word_of_kind v.kind ∷ subscript_fields sets (kind_has v.kind) v.index

abbrev pub row_fields : SetLists → RowName → List (List ℕ)
row_fields sets n = word_of_equation n.eq ∷ subscript_fields sets (equation_has n.eq) n.index

-- each subscript that there is is the position of a member
abbrev pub HasSubscriptsWithin : SetLists → (ℕ → Bool) → Index → Type 0
HasSubscriptsWithin sets has i = AllByRecursion (λ place. has place ≡ true → IsWithin sets i place) places

-- whether there is a subscript at a place, by a list of answers
abbrev pub has_at : List Bool → ℕ → Bool
has_at answers place = slice_index_or answers place false

-- a name and its value
abbrev pub variable_record : SetLists → Var × Rational → List (List ℕ)
variable_record sets e = variable_fields sets e.0 ++ fraction_text e.1 ∷ []

-- the same with another word
abbrev pub worded_record : SetLists → List ℕ → Var × Rational → List (List ℕ)
worded_record sets word e = word ∷ subscript_fields sets (kind_has e.0.kind) e.0.index ++ fraction_text e.1 ∷ []

abbrev pub row_record : SetLists → RowName × Rational → List (List ℕ)
row_record sets e = row_fields sets e.0 ++ fraction_text e.1 ∷ []

-- the multipliers that aren't 0
abbrev pub nonzero : List (RowName × Rational) → List (RowName × Rational)
nonzero es = filter (λ e. not (is_zero e.1.top)) es

-- all records of a plan, and of multipliers
abbrev pub plan_records : SetLists → List (Var × Rational) → List (List (List ℕ))
plan_records sets plan = header ∷ map (variable_record sets) plan

abbrev pub multiplier_records : SetLists → List (RowName × Rational) → List (List (List ℕ))
multiplier_records sets multipliers = header ∷ map (row_record sets) (nonzero multipliers)
