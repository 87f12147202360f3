-- The text of each table of the data.
use Rattle.std.specs.Prelude.{ℕ, List, [], ◌∷◌, map, codes}
use Rattle.std.specs.List.{flat_map, range_with_len}
use Rattle.model_sets.specs.Data.{Data}
use Rattle.model_sets.specs.Members.{SetLists, members}
use Rattle.model_sets.specs.Names.{set_count, set_word}
use Rattle.plan_files.specs.Files.{Fields}
use Rattle.plan_files.specs.Texts.{records_text}
use Rattle.plan_tables.specs.declared.shown.NumberForm.{NumberForm}
use Rattle.data_tables.specs.declared.names.DataTable.{DataTable}
use Rattle.data_tables.specs.declared.names.DataTable.TheVariants.{Param, Sets, Worth}
use Rattle.data_tables.specs.ParamTables.{param_text}
use Rattle.data_tables.specs.WorthTables.{worth_text}

-- ---- sets

-- a record for each member of set k, in the order of the file
abbrev pub set_records : SetLists → ℕ → List Fields
set_records sets k = map (λ name. set_word k ∷ name ∷ []) (members sets k)

abbrev pub sets_header : Fields
sets_header = codes "SET" ∷ codes "MEMBER" ∷ []

-- the members of all sets, by their numbers
abbrev pub sets_text : SetLists → List ℕ
sets_text sets = records_text (sets_header ∷ flat_map (set_records sets) (range_with_len 1 set_count))

-- ---- all tables

-- The text of a table of the data, with its numbers in this form and written factors of so many decimal places.
abbrev pub data_text : NumberForm → ℕ → Data → DataTable → List ℕ
data_text form places d Sets = sets_text d.sets
data_text form places d Worth = worth_text form places d
data_text form places d (Param param) = param_text form d param
