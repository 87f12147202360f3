-- Tables with another value at one place. Private functions alone cite these definitions.
use Rattle.std.specs.Prelude.{◌≡◌, ◌≢◌, ℕ, ◌-◌, ◌<◌, ℤ, List, length, nat_eq, Some, slice_index_or, if◌then◌else◌}
use Rattle.std.specs.List.Sorted.{IsStrictlyIncreasing}
use Rattle.param_tables.specs.Tables.{entries_of, given_in}
use Rattle.param_tables.specs.declared.param_table.ParamTable.{ParamTable}

-- the table says the same
pub record IsCopyOf (old new : ParamTable) : Type 0 where
  pub default : new.default ≡ old.default
  pub places : new.places.items ≡ old.places.items
  pub values : new.values.items ≡ old.values.items

-- the value is given at the place, and at the others what was; the places ascend, each with a value
pub record IsTableWith (place : ℕ) (value : ℤ) (old new : ParamTable) : Type 0 where
  pub default : new.default ≡ old.default
  pub ascending : IsStrictlyIncreasing new.places.items
  pub long : length new.values.items ≡ length new.places.items
  pub given : (q : ℕ) → given_in (entries_of new) q ≡ (if nat_eq q place then Some value else given_in (entries_of old) q)

-- each table says the same
pub record AreCopiesOf (old new : List ParamTable) : Type 0 where
  pub all : length new ≡ length old
  pub each : (i : ℕ) → i < length old → (e : ParamTable) → IsCopyOf (slice_index_or old i e) (slice_index_or new i e)

-- that of the parameter has the value at the place, and the others say the same
pub record AreTablesWith (param place : ℕ) (value : ℤ) (old new : List ParamTable) : Type 0 where
  pub all : length new ≡ length old
  pub here : (e : ParamTable) → IsTableWith place value (slice_index_or old (param - 1) e) (slice_index_or new (param - 1) e)
  pub others : (i : ℕ) → i < length old → i ≢ (param - 1) → (e : ParamTable) → IsCopyOf (slice_index_or old i e) (slice_index_or new i e)
