-- The records of a file, and what is asked of each: RFC 4180 as `csv` reads it by default, a header, and after it records that name something and give it a value.
use Rattle.std.specs.Prelude.{◌≡◌, ℕ, Bool, true, false, List, [], ◌∷◌, ◌++◌, length, map, slice_index_or, Contains, Option, Some, None, is_some}
use Rattle.std.specs.Cmp.Lexicographic.{pointwise}
use Rattle.std.specs.List.{find}
use Rattle.std.specs.Str.{bytes_eq}
use Rattle.exact_num.specs.Range.{all_fit}
use Rattle.exact_num.specs.Rational.{Rational, lowest}
use Rattle.scaled_decimals.specs.FractionText.{FractionText, SpellsValue, top_of, bottom_of}
use Rattle.csv.specs.Reading.{default_config, records, strip_bom}

-- a record is its fields, in order
abbrev pub Fields : Type 0
Fields = List (List ℕ)

-- the records of a text, after a byte order mark that it may begin with
abbrev pub records_of : List ℕ → List Fields
records_of text = records default_config (strip_bom text)

-- the field at a place, counted from 0
abbrev pub field : Fields → ℕ → List ℕ
field r place = slice_index_or r place []

-- the first nine fields: the name of a variable or a row
abbrev pub name_of : Fields → Fields
name_of r = map (field r) (0 ∷ 1 ∷ 2 ∷ 3 ∷ 4 ∷ 5 ∷ 6 ∷ 7 ∷ 8 ∷ [])

-- fields 1 to 8: the subscripts of a name
abbrev pub subscripts_in : Fields → Fields
subscripts_in r = map (field r) (1 ∷ 2 ∷ 3 ∷ 4 ∷ 5 ∷ 6 ∷ 7 ∷ 8 ∷ [])

-- whether the record has this name
abbrev pub has_name : Fields → Fields → Bool
has_name name r = pointwise bytes_eq name (name_of r)

-- the first of the records that has this name
abbrev pub record_of : List Fields → Fields → Option Fields
record_of rows name = find (has_name name) rows

-- whether one of the records has this name
abbrev pub is_named_in : List Fields → Fields → Bool
is_named_in rows name = is_some (record_of rows name)

-- the text is an exact value whose numbers fit, and this is the value
abbrev pub HasValue : List ℕ → Rational → Type 0
HasValue text x = (f : FractionText) × SpellsValue f text × (all_fit (top_of f ∷ bottom_of f ∷ []) ≡ true) × (x ≡ lowest (top_of f) (bottom_of f))

-- the text is no exact value, or one whose numbers don't fit
abbrev pub HasNoValue : List ℕ → Type 0
HasNoValue text = (f : FractionText) → SpellsValue f text → all_fit (top_of f ∷ bottom_of f ∷ []) ≡ false

-- the record is right after these, where records may have these names: it has ten fields, one of the names and none of an earlier record, and a value
pub record IsRight (names earlier : List Fields) (r : Fields) : Type 0 where
  pub ten : length r ≡ 10
  pub known : Contains names (name_of r)
  pub once : is_named_in earlier (name_of r) ≡ false
  pub value : Rational
  pub exact : HasValue (field r 9) value

-- each of the records is right after those before it
abbrev pub AreRightAfter : List Fields → List Fields → List Fields → Type 0
AreRightAfter names earlier [] = Unit {0}
AreRightAfter names earlier (r ∷ rows) = IsRight names earlier r × AreRightAfter names (earlier ++ r ∷ []) rows

abbrev pub AreRight : List Fields → List Fields → Type 0
AreRight names rows = AreRightAfter names [] rows

-- a record gives this value, none where there is no record
abbrev pub GivesValue : Option Fields → Option Rational → Type 0
GivesValue None value = value ≡ None
GivesValue (Some r) value = (x : Rational) × (value ≡ Some x) × HasValue (field r 9) x

-- the records give this value to a name, none where no record has the name
abbrev pub Gives : List Fields → Fields → Option Rational → Type 0
Gives rows name value = GivesValue (record_of rows name) value
