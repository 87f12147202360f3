-- What the table of a parameter says. Private functions alone cite these definitions.
use Rattle.std.specs.Prelude.{◌≡◌, ℕ, true, ◌-◌, ◌<◌, ◌≤◌, ℤ, List, [], length, nat_eq, nat_lt, Option, None, Some, MatchOption, All, slice_index_or, if◌then◌else◌}
use Rattle.std.specs.List.{zip, find}
use Rattle.std.specs.List.Sorted.{IsStrictlyIncreasing}
use Rattle.std.specs.Map.{lookup}
use Rattle.std.specs.Option.{option_map, option_or}
use Rattle.std.specs.Cmp.Lexicographic.{pointwise}
use Rattle.std.specs.Str.{bytes_eq}
use Rattle.model_sets.specs.Data.{Data, default_of, given_at, indices_of, value_of_none}
use Rattle.model_sets.specs.Members.{SetLists}
use Rattle.model_sets.specs.Params.{IsParam, is_used, param_at, param_count}
use Rattle.param_tables.specs.Ranges.{range_fault}
use Rattle.mathprog_data.specs.Meaning.{ParamBlock, GivenValue}
use Rattle.param_tables.specs.declared.fault.CellFault.{CellFault}
use Rattle.param_tables.specs.declared.first_fault.PlaceFault.{PlaceFault}
use Rattle.param_tables.specs.declared.param_table.ParamTable.{ParamTable}
use Rattle.model_sets.specs.declared.params.Range.{Range}

-- the value that is given at the index
abbrev pub given_among : List GivenValue → List (List ℕ) → Option ℤ
given_among values index = option_map (λ v. v.value) (find (λ v. pointwise bytes_eq v.index index) values)

-- the look-up by places finds what the values give at each index, and nothing at other places
pub record AreGiven (sets : SetLists) (param : ℕ) (values : List GivenValue) (found : ℕ → Option ℤ) : Type 0 where
  pub inside : (place : ℕ) → place < length (indices_of sets param) → found place ≡ given_among values (slice_index_or (indices_of sets param) place [])
  pub outside : (place : ℕ) → length (indices_of sets param) ≤ place → found place ≡ None

-- the places of the table, each with its value
abbrev pub entries_of : ParamTable → List (ℕ × ℤ)
entries_of table = zip table.places.items table.values.items

-- the value given at the place
abbrev pub given_in : List (ℕ × ℤ) → ℕ → Option ℤ
given_in entries place = lookup (nat_eq place) entries

-- the value where none is given
abbrev pub value_else : ℕ → Option ℤ → Option ℤ
value_else param default = option_or default (value_of_none param)

-- the value of the parameter at the place
abbrev pub table_value : ℕ → ParamTable → ℕ → Option ℤ
table_value param table place = option_or (given_in (entries_of table) place) (value_else param table.default)

-- the places ascend and are below the number of indices, and each has a value
pub record IsTable (size : ℕ) (table : ParamTable) : Type 0 where
  pub ascending : IsStrictlyIncreasing table.places.items
  pub long : length table.values.items ≡ length table.places.items
  pub below : All (λ place. place < size) table.places.items

-- the table says the values given for the parameter, place by place, and its default
pub record IsTableFor (d : Data) (param : ℕ) (table : ParamTable) : Type 0 where
  pub shape : IsTable (length (indices_of d.sets param)) table
  pub given : (place : ℕ) → place < length (indices_of d.sets param) → given_at d param (slice_index_or (indices_of d.sets param) place []) ≡ given_in (entries_of table) place
  pub default : default_of d param ≡ table.default

-- the table says what the statement says
pub record IsTableOf (sets : SetLists) (statement : ParamBlock) (table : ParamTable) : Type 0 where
  pub shape : IsTable (length (indices_of sets statement.param)) table
  pub default : table.default ≡ statement.default
  pub given : (place : ℕ) → place < length (indices_of sets statement.param) → given_in (entries_of table) place ≡ given_among statement.values (slice_index_or (indices_of sets statement.param) place [])

-- n is the number of a parameter that is used in some data
abbrev pub IsUsable : ℕ → Type 0
IsUsable n = IsParam n × (is_used true (param_at n).used ≡ true)

-- there is a table for each parameter, from number 1, and it says the parameter's values where some data use it; the others are empty
pub record AreTablesFor (d : Data) (tables : List ParamTable) : Type 0 where
  pub all : length tables ≡ param_count
  pub each : (param : ℕ) → IsUsable param → (e : ParamTable) → IsTableFor d param (slice_index_or tables (param - 1) e)

-- there is a table for each parameter, from number 1, where some data use it with places and values of its indices
pub record HaveShapes (sets : SetLists) (tables : List ParamTable) : Type 0 where
  pub all : length tables ≡ param_count
  pub each : (param : ℕ) → IsUsable param → (e : ParamTable) → IsTable (length (indices_of sets param)) (slice_index_or tables (param - 1) e)

-- the fault of a value that is given, or else that of a missing one
abbrev pub place_fault : Range → Option CellFault → Option ℤ → Option CellFault
place_fault range missing None = missing
place_fault range missing (Some v) = range_fault range v

-- the fault at a place that lies before `end`
abbrev pub fault_before : Option CellFault → ℕ → ℕ → Option PlaceFault
fault_before missing place end = if nat_lt place end then option_map (λ fault. record { place = place; fault = fault }) missing else None

-- the fault is the first one below the size, or there is none
abbrev pub IsFirstFault : (ℕ → Option CellFault) → ℕ → Option PlaceFault → Type 0
IsFirstFault fault size found =
    MatchOption found
    ((place : ℕ) → place < size → fault place ≡ None)
    (λ first. (first.place < size) × (fault first.place ≡ Some first.fault) × ((place : ℕ) → place < first.place → fault place ≡ None))
