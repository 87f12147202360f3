-- The columns of a file of changes: which names they have, and which of them the subscripts of a parameter stand in.
use Rattle.std.specs.Prelude.{ℕ, Bool, false, not, ◌&&◌, ◌||◌, nat_eq, List, [], ◌∷◌, map, codes, position, if◌then◌else◌}
use Rattle.std.specs.List.{list_all, list_any}
use Rattle.std.specs.Option.{option_map_or}
use Rattle.std.specs.Str.{bytes_eq}
use Rattle.model_sets.specs.Members.{is_among}
use Rattle.model_sets.specs.Names.{region, set_word}
use Rattle.model_sets.specs.Params.{subscript_sets}
use Rattle.plan_files.specs.Files.{Fields, field}
use Rattle.data_changes.specs.declared.columns.TheConstants.{COLUMNS, NEEDED, OTHER_REGION, SUBSCRIPTS}

-- the names of all columns, of those that each file has, and of those of subscripts
abbrev pub columns : List (List ℕ)
columns = map (λ column. column.now) COLUMNS

abbrev pub needed_columns : List (List ℕ)
needed_columns = map (λ column. column.now) NEEDED

abbrev pub subscript_columns : List (List ℕ)
subscript_columns = map (λ column. column.now) SUBSCRIPTS

-- whether one of the names stands twice
unfoldable pub has_twice : List (List ℕ) → Bool
has_twice [] = false
has_twice (name ∷ names) = is_among names name || has_twice names

-- whether each of these names is among those
unfoldable pub are_among : List (List ℕ) → List (List ℕ) → Bool
are_among all names = list_all (is_among all) names

-- whether the fields are the names of columns, each once, and none that each file has is missing
abbrev pub is_header : Fields → Bool
is_header header = are_among columns header && not (has_twice header) && are_among header needed_columns

-- the field of the record in the column of this name, and nothing where the header has no such column
abbrev pub field_in : (header : Fields) → (r : Fields) → (column : List ℕ) → List ℕ
field_in header r column = option_map_or (λ place. field r place) (position (bytes_eq column) header) []

-- the columns of subscripts over these sets: the second of two regions has one of its own
abbrev pub columns_over : (is_second : Bool) → List ℕ → List (List ℕ)
columns_over is_second [] = []
columns_over is_second (set ∷ sets) = (if nat_eq set region && is_second then OTHER_REGION.now else set_word set) ∷ columns_over (nat_eq set region || is_second) sets

-- the columns of the parameter's subscripts, in their order
abbrev pub columns_of : ℕ → List (List ℕ)
columns_of param = columns_over false (subscript_sets param)

-- a field that is empty or `*` names every member
abbrev pub is_every : List ℕ → Bool
is_every text = bytes_eq text [] || bytes_eq text (codes "*")

-- whether the record names members in this column, which is none of a parameter's own
unfoldable pub is_stray : (header : Fields) → (r : Fields) → (own : List (List ℕ)) → (column : List ℕ) → Bool
is_stray header r own column = not (is_every (field_in header r column)) && not (is_among own column)

-- whether it does so in one of these columns
unfoldable pub names_in_others : (header : Fields) → (r : Fields) → (own : List (List ℕ)) → List (List ℕ) → Bool
names_in_others header r own columns = list_any (is_stray header r own) columns

-- whether the record names members in a column that the parameter has not
abbrev pub has_stray : (header : Fields) → (r : Fields) → ℕ → Bool
has_stray header r param = names_in_others header r (columns_of param) subscript_columns
