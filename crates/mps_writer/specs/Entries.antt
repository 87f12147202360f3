-- All entries of rows in the order of their variables, and the lines of columns made from them. Only private functions cite these:
-- that the lines are those of the MPS text is shown of them.
use Rattle.std.specs.Prelude.{◌≡◌, ℕ, ℤ, Bool, false, ◌==◌, List, [], ◌∷◌, ◌++◌, map, filter, ⊤, IsPermutation, if◌then◌else◌}
use Rattle.std.specs.List.{flat_map}
use Rattle.std.specs.Ordering.{is_lt}
use Rattle.model_sets.specs.Members.{SetLists}
use Rattle.row_core.specs.declared.Var.{Var}
use Rattle.row_core.specs.Equations.{IsEquation}
use Rattle.row_core.specs.Order.{var_cmp}
use Rattle.row_core.specs.Contents.{RowContents}
use Rattle.mps_writer.specs.declared.entries.Entry.{Entry}
use Rattle.mps_writer.specs.MpsText.{column_head, entry_line, is_same_variable, numbered}

-- an entry with its variable and the row's number
abbrev pub entry_of : ℕ → Var × ℤ → Entry
entry_of i e = record { variable = e.0; row = i; number = e.1 }

-- the entries of a row
abbrev pub row_entries : ℕ × RowContents → List Entry
row_entries r = map (entry_of r.0) r.1.entries

-- all entries, row by row
abbrev pub entries_of : List RowContents → List Entry
entries_of rows = flat_map row_entries (numbered rows)

-- the entry is at a variable of this kind
abbrev pub is_of_kind : ℕ → Entry → Bool
is_of_kind kind e = e.variable.kind == kind

-- all entries of a kind, row by row
abbrev pub entries_of_kind : ℕ → List RowContents → List Entry
entries_of_kind kind rows = filter (is_of_kind kind) (entries_of rows)

-- the row's equation is in its list
abbrev pub HasEquation : RowContents → Type 0
HasEquation row = IsEquation row.name.eq

-- the entry is one of this variable
abbrev pub is_of : Var → Entry → Bool
is_of v e = is_same_variable e.variable v

-- none is before v, and none is before the one before it
abbrev pub RisesFrom : Var → List Entry → Type 0
RisesFrom v [] = ⊤
RisesFrom v (e ∷ es) = (is_lt (var_cmp e.variable v) ≡ false) × RisesFrom e.variable es

-- none is before the one before it
abbrev pub Rises : List Entry → Type 0
Rises [] = ⊤
Rises (e ∷ es) = RisesFrom e.variable es

-- the same entries, by variable, and those of one variable in their order
pub record AreSorted (entries sorted : List Entry) : Type 0 where
  pub same : IsPermutation entries sorted
  pub rising : Rises sorted
  pub stable : (v : Var) → filter (is_of v) sorted ≡ filter (is_of v) entries

-- the same entries, and those of one variable in their order
pub record IsRearranged (entries others : List Entry) : Type 0 where
  pub same : IsPermutation entries others
  pub stable : (v : Var) → filter (is_of v) others ≡ filter (is_of v) entries

-- the entry's variable is after v
abbrev pub is_after : Var → Entry → Bool
is_after v e = is_lt (var_cmp v e.variable)

-- the entries from the first one on whose variable is after v
abbrev pub following : Var → List Entry → List Entry
following v [] = []
following v (e ∷ es) = if is_after v e then e ∷ es else following v es

-- the lines of the entries of v in column j, up to the first entry whose variable is after v
abbrev pub lines_of : ℕ → Var → List Entry → List ℕ
lines_of j v [] = []
lines_of j v (e ∷ es) =
    if is_after v e then []
    else (if is_of v e then entry_line j e.row e.number else []) ++ lines_of j v es

-- a column's head, and the lines of its entries among these
abbrev pub column_text : SetLists → List Entry → ℕ × Var → List ℕ
column_text sets entries c = column_head sets c ++ flat_map (λ e. entry_line c.0 e.row e.number) (filter (is_of c.1) entries)
