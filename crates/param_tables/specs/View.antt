-- What the sets and tables in memory mean. Private functions alone cite these definitions.
use Rattle.std.specs.Prelude.{ℕ, ℤ, Bool, List, [], map, Option, slice_index_or}
use Rattle.std.specs.List.{enumerate_from, filter_map, flat_map}
use Rattle.std.specs.Option.{option_map}
use Rattle.model_sets.specs.Data.{Data, Default, Given, indices_of}
use Rattle.model_sets.specs.Members.{SetLists}
use Rattle.param_tables.specs.Built.{AreComplete}
use Rattle.param_tables.specs.Canonical.{canonical}
use Rattle.param_tables.specs.Tables.{AreTablesFor, entries_of}
use Rattle.param_tables.specs.declared.param_table.ParamTable.{ParamTable}

-- the value at the place, as one of the data
abbrev pub given_by : SetLists → ℕ → (ℕ × ℤ) → Given
given_by sets param entry = record { param = param; index = slice_index_or (indices_of sets param) entry.0 []; value = entry.1 }

-- the default of the table, as one of the data
abbrev pub default_by : ℕ → ParamTable → Option Default
default_by param table = option_map (λ value. record { param = param; value = value }) table.default

-- the data of these sets and these tables, from parameter 1, with a statement for DiscountRateIdv or without
abbrev pub data_by : SetLists → List ParamTable → Bool → Data
data_by sets tables second = record {
  sets = sets;
  given = flat_map (λ (param, table). map (given_by sets param) (entries_of table)) (enumerate_from 1 tables);
  defaults = filter_map (λ (param, table). default_by param table) (enumerate_from 1 tables);
  second = second;
}

-- what they mean: these data in canonical form
abbrev pub facts_of : SetLists → List ParamTable → Bool → Data
facts_of sets tables second = canonical (data_by sets tables second)

-- the tables are those of their data, and what they mean is complete
pub record AreKept (sets : SetLists) (tables : List ParamTable) (second : Bool) : Type 0 where
  pub tabled : AreTablesFor (data_by sets tables second) tables
  pub complete : AreComplete (facts_of sets tables second)
