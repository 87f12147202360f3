-- What the functions that read a file make of it on the way.
use Rattle.std.specs.Prelude.{◌≡◌, ℕ, ◌+◌, ◌<◌, Bool, true, false, List, [], ◌∷◌, length, slice_index_or, Option, Some, None, Result, Ok, Err, ⊤, if◌then◌else◌}
use Rattle.std.specs.Borrow.{Bor}
use Rattle.std.specs.List.{AllByRecursion}
use Rattle.std.specs.Option.{option_map}
use Rattle.exact_num.specs.Value.{value_of}
use Rattle.exact_num.specs.declared.fraction.Frac.{Frac}
use Rattle.csv.specs.Machine.{ends_at_end}
use Rattle.csv.specs.Records.{Row, fields_of}
use Rattle.csv.specs.Reading.{Ready, default_config, reader_config, reader_state, reader_trim, records_from, source_of}
use Rattle.csv.specs.declared.reader.Reader.{Reader}
use Rattle.csv.specs.declared.reader.Trim.TheVariants as trim
use Rattle.model_sets.specs.Members.{SetLists, members}
use Rattle.row_core.specs.declared.Index.{Index}
use Rattle.row_core.specs.NameTexts.{position_at, set_of}
use Rattle.plan_files.specs.declared.faults.PlanFail.{PlanFail}
use Rattle.plan_files.specs.declared.faults.PlanFail.TheVariants.{Fault, Memory}
use Rattle.plan_files.specs.declared.faults.PlanFault.TheVariants.{BadRecord}
use Rattle.plan_files.specs.Answers.{HasNoHeader, IsInForm}
use Rattle.plan_files.specs.Files.{Fields, field, Gives, HasNoValue, HasValue, name_of}
use Rattle.plan_files.specs.Records.{has_at, header, places}

-- what is found is the value of the text
abbrev pub TellsValue : List ℕ → Option Frac → Type 0
TellsValue text None = HasNoValue text
TellsValue text (Some value) = HasValue text (value_of value)

-- the subscript is the position of the member of this name; where there is no such subscript, it is 0 and the name is empty
pub record IsSubscript (names : List (List ℕ)) (has : Bool) (name : List ℕ) (position : ℕ) : Type 0 where
  pub within : has ≡ true → position < length names
  pub unused : has ≡ false → position ≡ 0
  pub named : (if has then slice_index_or names position [] else []) ≡ name

-- fields 1 to 8 of the record are the members of these subscripts
abbrev pub IsIndexOf : SetLists → List Bool → Fields → Index → Type 0
IsIndexOf sets has r i =
    AllByRecursion (λ place. IsSubscript (members sets (set_of place)) (has_at has place) (field r (place + 1)) (position_at i place)) places

-- what is found is the one place at which the names have this name
abbrev pub IsEntry : List Fields → Fields → Option ℕ → Type 0
IsEntry names name None = (j : ℕ) → j < length names → ¬ (slice_index_or names j [] ≡ name)
IsEntry names name (Some i) = (i < length names) × (slice_index_or names i [] ≡ name) × ((j : ℕ) → j < length names → slice_index_or names j [] ≡ name → j ≡ i)

-- at each record the answer is the place of the name that it has
abbrev pub FindsPlaces : List Fields → (Row → Option ℕ → Type 0) → Type 0
FindsPlaces names answers = (record_read : Row) (place : Option ℕ) → answers record_read place → IsEntry names (name_of (fields_of record_read)) place

-- the bytes that a reader of a slice has left, if it has not failed
abbrev pub bytes_left : Reader (Bor (List ℕ)) → Option (List ℕ)
bytes_left reader = source_of (λ s. Some s.now) reader

-- these are the records that a reader has left
pub record HasLeft (reader : Reader (Bor (List ℕ))) (rows : List Fields) : Type 0 where
  pub untrimmed : reader_trim reader ≡ trim.None
  pub ready : Ready reader
  pub config : reader_config reader ≡ default_config
  pub outside : ends_at_end (reader_state reader) ≡ false
  pub bytes : List ℕ
  pub source : bytes_left reader ≡ Some bytes
  pub all : rows ≡ records_from default_config (length bytes + 1) (reader_state reader) bytes

-- a record was found, and it is the first of these; or none was, and there are none
abbrev pub IsNext : Reader (Bor (List ℕ)) → List Fields → Bool → Fields → Type 0
IsNext reader rows true r = (later : List Fields) × (rows ≡ r ∷ later) × HasLeft reader later
IsNext reader rows false r = rows ≡ []

-- the header was read, and these are the records after it; or the records don't begin with it
abbrev pub IsAfterHeader : Reader (Bor (List ℕ)) → List Fields → Result Unit PlanFail → Type 0
IsAfterHeader reader rows (Ok done) = (later : List Fields) × (rows ≡ header ∷ later) × HasLeft reader later
IsAfterHeader reader rows (Err (Fault fault)) = HasNoHeader rows × (fault ≡ BadRecord 1)
IsAfterHeader reader rows (Err Memory) = ⊤

-- the values are those that the records give to the names
pub record AreTaken (names rows : List Fields) (values : List (Option Frac)) : Type 0 where
  pub many : length values ≡ length names
  pub each : (i : ℕ) → i < length names → Gives rows (slice_index_or names i []) (option_map value_of (slice_index_or values i None))

-- all records are in form, and the values are those that they give to the names
pub record AreRead (names all : List Fields) (values : List (Option Frac)) : Type 0 where
  pub rows : List Fields
  pub form : IsInForm names all rows
  pub taken : AreTaken names rows values

-- the keys that have a value, each with it
abbrev pub with_values : {K : Type 0} → List K → List (Option Frac) → List (K × Frac)
with_values [] values = []
with_values (key ∷ keys) [] = []
with_values (key ∷ keys) (None ∷ values) = with_values keys values
with_values (key ∷ keys) (Some value ∷ values) = (key, value) ∷ with_values keys values

-- the first key that has none
abbrev pub first_without : {K : Type 0} → List K → List (Option Frac) → Option K
first_without [] values = None
first_without (key ∷ keys) [] = None
first_without (key ∷ keys) (None ∷ values) = Some key
first_without (key ∷ keys) (Some value ∷ values) = first_without keys values
