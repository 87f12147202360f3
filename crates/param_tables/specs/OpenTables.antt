-- What tables that are open to changes mean. Private functions alone cite these definitions.
use Rattle.std.specs.Prelude.{◌≡◌, ℕ, ◌-◌, ◌<◌, ◌≤◌, ◌⊎◌, ℤ, Bool, true, false, List, [], filter, length, Contains, Option, None, Some, IsSomeAnd, if◌then◌else◌, slice_index_or}
use Rattle.std.specs.BTreeMap.{get}
use Rattle.std.specs.Cmp.Lexicographic.{pointwise}
use Rattle.std.specs.List.{filter_map, flat_map, range_with_len, slice_get}
use Rattle.std.specs.List.Sorted.{IsStrictlyIncreasing}
use Rattle.std.specs.Option.{option_and_then, option_map, option_map_or, option_or}
use Rattle.std.specs.Ordering.{int_eq, nat_cmp}
use Rattle.std.specs.Prelude.{position, not, ◌&&◌}
use Rattle.std.specs.Str.{bytes_eq}
use Rattle.model_sets.specs.Data.{Data, Default, Given, indices_of, indices_over}
use Rattle.model_sets.specs.Members.{AreSets, SetLists}
use Rattle.model_sets.specs.Params.{is_used, param_at, param_count, range_of, subscript_sets}
use Rattle.param_tables.specs.Built.{IsValueIn}
use Rattle.param_tables.specs.Canonical.{given_value}
use Rattle.param_tables.specs.ChangeTold.{named_over}
use Rattle.param_tables.specs.Refusals.{AtIndex, Refusal}
use Rattle.param_tables.specs.Changes.{Change, Named, changed_fault, changed_value, is_left, is_named, is_rounded_by}
use Rattle.std.specs.List.{list_all, zip}
use Rattle.param_tables.specs.Tables.{IsUsable, entries_of, given_in, value_else}
use Rattle.param_tables.specs.declared.change.Change.{Change as ChangeByPositions}
use Rattle.param_tables.specs.declared.changed_table.PlaceStop.{PlaceStop}
use Rattle.param_tables.specs.declared.changed_table.PlaceStop.TheVariants.{Fault, Memory}
use Rattle.param_tables.specs.declared.first_fault.PlaceFault.{PlaceFault}
use Rattle.param_tables.specs.declared.open_table.OpenTable.{OpenTable}
use Rattle.param_tables.specs.declared.param_table.ParamTable.{ParamTable}

-- ---- one table

-- the value given at the place: in the table, else among those added
abbrev pub given_open : OpenTable → ℕ → Option ℤ
given_open table place = option_or (given_in (entries_of table.table) place) (get nat_cmp table.added place)

-- the value of the parameter at the place
abbrev pub open_value : ℕ → OpenTable → ℕ → Option ℤ
open_value param table place = option_or (given_open table place) (value_else param table.table.default)

-- the places of the table ascend, each with a value, and nothing is given from `size` on
pub record IsOpenTable (size : ℕ) (table : OpenTable) : Type 0 where
  pub ascending : IsStrictlyIncreasing table.table.places.items
  pub long : length table.table.values.items ≡ length table.table.places.items
  pub inside : (place : ℕ) → size ≤ place → given_open table place ≡ None

-- the parameter has a value in its range at each place
pub record HasValues (param size : ℕ) (table : OpenTable) : Type 0 where
  pub each : (place : ℕ) → place < size → IsSomeAnd (open_value param table place) (IsValueIn (range_of param))

-- the table has the places and the default that it had, and as many values
pub record KeepsShape (old new : OpenTable) : Type 0 where
  pub default : new.table.default ≡ old.table.default
  pub places : new.table.places.items ≡ old.table.places.items
  pub long : length new.table.values.items ≡ length old.table.values.items

-- each value that is put is given at its place, the first where there are several, and elsewhere what was
abbrev pub ArePut : List (ℕ × ℤ) → OpenTable → OpenTable → Type 0
ArePut puts old new = (place : ℕ) → given_open new place ≡ option_or (given_in puts place) (given_open old place)

-- at each place stands what was, or a value that is put there
abbrev pub MayBePut : List (ℕ × ℤ) → OpenTable → OpenTable → Type 0
MayBePut puts old new = (place : ℕ) → (given_open new place ≡ given_open old place) ⊎ ((v : ℤ) × Contains puts (place, v) × (given_open new place ≡ Some v))

-- the table as it is when it is closed: it gives the same, and has places that ascend, each with a value, where it had
pub record IsClosedTable (opened : OpenTable) (table : ParamTable) : Type 0 where
  pub default : table.default ≡ opened.table.default
  pub ascending : IsStrictlyIncreasing opened.table.places.items → IsStrictlyIncreasing table.places.items
  pub long : length opened.table.values.items ≡ length opened.table.places.items → length table.values.items ≡ length table.places.items
  pub given : (place : ℕ) → given_in (entries_of table) place ≡ given_open opened place

-- ---- all tables

-- the value that is given for the parameter at the index
abbrev pub given_by_tables : SetLists → List OpenTable → ℕ → List (List ℕ) → Option ℤ
given_by_tables sets tables param index =
    option_and_then (λ table. option_and_then (given_open table) (position (pointwise bytes_eq index) (indices_of sets param))) (slice_get tables (param - 1))

-- the default that is given for the parameter
abbrev pub default_by_tables : List OpenTable → ℕ → Option ℤ
default_by_tables tables param = option_and_then (λ table. table.table.default) (slice_get tables (param - 1))

-- the values that are given, in canonical form
unfoldable pub given_opened : SetLists → List OpenTable → Bool → List Given
given_opened sets tables second =
    flat_map
    (λ param. filter_map (λ index. option_map (given_value param index) (given_by_tables sets tables param index)) (indices_of sets param))
    (filter (λ n. is_used second (param_at n).used) (range_with_len 1 param_count))

-- the defaults that are given, in canonical form
unfoldable pub defaults_opened : List OpenTable → Bool → List Default
defaults_opened tables second =
    filter_map
    (λ param. option_map (λ value. record { param = param; value = value }) (default_by_tables tables param))
    (filter (λ n. is_used second (param_at n).used) (range_with_len 1 param_count))

-- the data of these sets and these tables, from parameter 1, with a statement for DiscountRateIdv or without, in canonical form
abbrev pub facts_opened : SetLists → List OpenTable → Bool → Data
facts_opened sets tables second = record { sets = sets; given = given_opened sets tables second; defaults = defaults_opened tables second; second = second }

-- there is a table for each parameter, from number 1, where some data use it with places and values of its indices; a used
-- parameter has a value in its range at each of its indices
pub record AreOpen (sets : SetLists) (tables : List OpenTable) (second : Bool) : Type 0 where
  pub members : AreSets sets
  pub all : length tables ≡ param_count
  pub shapes : (param : ℕ) → IsUsable param → (e : OpenTable) → IsOpenTable (length (indices_of sets param)) (slice_index_or tables (param - 1) e)
  pub values : (param : ℕ) → IsUsable param → is_used second (param_at param).used ≡ true → (e : OpenTable) → HasValues param (length (indices_of sets param)) (slice_index_or tables (param - 1) e)

-- each table is opened as it was
pub record AreOpened (tables : List ParamTable) (opened : List OpenTable) : Type 0 where
  pub all : length opened ≡ length tables
  pub table : (i : ℕ) → i < length tables → (e : ParamTable) (f : OpenTable) → (slice_index_or opened i f).table ≡ slice_index_or tables i e
  pub none : (i : ℕ) → i < length tables → (f : OpenTable) (place : ℕ) → get nat_cmp (slice_index_or opened i f).added place ≡ None

-- each table is closed
pub record AreClosed (opened : List OpenTable) (tables : List ParamTable) : Type 0 where
  pub all : length tables ≡ length opened
  pub each : (i : ℕ) → i < length opened → (e : OpenTable) (f : ParamTable) → IsClosedTable (slice_index_or opened i e) (slice_index_or tables i f)

-- ---- what a change names

-- whether it names the index at the place
abbrev pub names_place : SetLists → List ℕ → List Named → ℕ → Bool
names_place sets ks named place = list_all (λ (n, name). is_named n name) (zip named (slice_index_or (indices_over sets ks) place []))

-- the places of the indices that it names
abbrev pub places_named : SetLists → List ℕ → List Named → List ℕ
places_named sets ks named = filter (names_place sets ks named) (range_with_len 0 (length (indices_over sets ks)))

-- the places of the indices that the change names
abbrev pub places_of_change : SetLists → ChangeByPositions → List ℕ
places_of_change sets change = places_named sets (subscript_sets change.param) (named_over sets (subscript_sets change.param) change.members.items)

-- ---- what a change does

-- the change apart from what it names
abbrev pub rule_of : ChangeByPositions → Change
rule_of change = record { param = change.param; named = []; kind = change.kind; amount = change.amount }

-- the fault of what the change gives at the place
abbrev pub fault_by : Change → OpenTable → ℕ → Option PlaceFault
fault_by change table place =
    option_map (λ fault. record { place = place; fault = fault }) (option_and_then (λ v. changed_fault (range_of change.param) (changed_value change v)) (open_value change.param table place))

-- the refusal of the parameter for this fault
abbrev pub refusal_by : SetLists → ℕ → PlaceFault → Refusal
refusal_by sets param found = AtIndex found.fault param (slice_index_or (indices_of sets param) found.place [])

-- what the change puts at the place, where that is another value than stands there
abbrev pub put_by : Change → OpenTable → ℕ → Option (ℕ × ℤ)
put_by change table place =
    option_and_then (λ v. if int_eq (changed_value change v) v then None else Some (place, changed_value change v)) (open_value change.param table place)

-- whether what the change gives at the place is rounded
abbrev pub rounds_at : Change → OpenTable → ℕ → Bool
rounds_at change table place =
    option_map_or (λ v. not (is_left change v) && is_rounded_by change.kind change.amount v) (open_value change.param table place) false

-- the stop is due, where this fault is the first; it may run out of memory at any time
abbrev pub IsPlaceStopDue : Option PlaceFault → PlaceStop → Type 0
IsPlaceStopDue fault (Fault first) = fault ≡ Some first
IsPlaceStopDue fault Memory = Unit {0}
