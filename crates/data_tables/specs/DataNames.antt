-- The names of the tables of data: `sets`, `worth`, and the word of each parameter that the data use.
use Rattle.std.specs.Prelude.{ℕ, Bool, List, codes, Option, None, Some, ⊤, if◌then◌else◌}
use Rattle.std.specs.Option.{option_map}
use Rattle.std.specs.Str.{bytes_eq}
use Rattle.model_sets.specs.Data.{Data, IsUsedParam}
use Rattle.model_sets.specs.Params.{is_used, param_at, param_number}
use Rattle.data_tables.specs.declared.names.DataTable.{DataTable}
use Rattle.data_tables.specs.declared.names.DataTable.TheVariants.{Param, Sets, Worth}

-- the parameter, where data that have a statement for DiscountRateIdv, or have none, use it
abbrev pub where_used : Bool → Option ℕ → Option ℕ
where_used second None = None
where_used second (Some param) = if is_used second (param_at param).used then Some param else None

-- the number of the used parameter of this word, if there is one
abbrev pub used_param_named : Bool → List ℕ → Option ℕ
used_param_named second word = where_used second (param_number word)

-- the table of this name, if there is one
abbrev pub data_table_named : Bool → List ℕ → Option DataTable
data_table_named second name =
    if bytes_eq name (codes "sets") then Some Sets
    else if bytes_eq name (codes "worth") then Some Worth
    else option_map Param (used_param_named second name)

-- a table of a parameter is one of a parameter that the data use
abbrev pub IsDataTable : Data → DataTable → Type 0
IsDataTable d Sets = ⊤
IsDataTable d Worth = ⊤
IsDataTable d (Param param) = IsUsedParam d param
