-- What a first pass through all rows finds of them. Only private functions cite these.
use Rattle.std.specs.Prelude.{◌≡◌, ℕ, ◌+◌, ◌-◌, ◌*◌, ◌<◌, Bool, true, false, ◌||◌, List, [], ◌∷◌, ◌++◌, map, length, Contains, ◌↔◌, slice_index_or}
use Rattle.std.specs.List.{flat_map, list_all, range_with_len}
use Rattle.model_sets.specs.Data.{Data}
use Rattle.row_core.specs.declared.Row.{Row}
use Rattle.row_core.specs.declared.RowName.{RowName}
use Rattle.row_core.specs.declared.Var.{Var}
use Rattle.row_core.specs.declared.equation_numbers.TheConstants.{EQUATION_COUNT}
use Rattle.row_core.specs.Numbers.{ascends}
use Rattle.row_core.specs.Order.{var_cmp}
use Rattle.named_equations.specs.Instances.{instances_of}
use Rattle.row_core.specs.Contents.{RowContents, contents_of}
use Rattle.row_core.specs.Sources.{has_kind}
use Rattle.row_core.specs.RowLists.{entry_variables}
use Rattle.row_book.specs.Books.{AreRowsOf, entries_in, row_fits}
use Rattle.row_book.specs.Held.{AreHeld, KeepsRows, held_variables}
use Rattle.row_book.specs.declared.tally.Tally.{Tally}

-- how many kinds a table of kinds has room for at each equation, and in all
abbrev pub kind_room : ℕ
kind_room = 256

abbrev pub table_room : ℕ
table_room = kind_room * (EQUATION_COUNT + 1)

-- the kind is marked at the equation
abbrev pub marked : List Bool → ℕ → ℕ → Bool
marked table eq kind = slice_index_or table (eq * kind_room + kind) false

-- beside those that were marked before are marked those for which this is true
pub record MarksMore (old new : List Bool) (more : ℕ → ℕ → Bool) : Type 0 where
  pub long : length new ≡ length old
  pub each : (eq kind : ℕ) → eq < EQUATION_COUNT + 1 → kind < kind_room → marked new eq kind ≡ (marked old eq kind || more eq kind)

-- the kinds of the entries of these rows are marked at their equations, and no others
pub record Marks (table : List Bool) (rows : List RowContents) : Type 0 where
  pub long : length table ≡ table_room
  pub each : (eq kind : ℕ) → eq < EQUATION_COUNT + 1 → kind < kind_room → marked table eq kind ≡ has_kind eq kind rows

-- the same variables
abbrev pub AreSameVariables : List Var → List Var → Type 0
AreSameVariables vs ws = (v : Var) → Contains vs v ↔ Contains ws v

-- the same variables, which ascend strictly
pub record AreSortedVariables (vs sorted : List Var) : Type 0 where
  pub ascending : ascends var_cmp sorted ≡ true
  pub same : AreSameVariables sorted vs

-- after the rows that were looked at before, these were looked at too
pub record Counts (rows : List Row) (old new : Tally) : Type 0 where
  pub number : new.rows ≡ old.rows + length rows
  pub kinds : MarksMore old.kinds.items new.kinds.items (λ eq kind. has_kind eq kind (map contents_of rows))

-- the variables that were gathered, and those of the rows that are held
abbrev pub found_variables : Tally → List Var
found_variables t = t.vars.items ++ held_variables t.held.items

-- the rows of this equation, which is the next one, were made and looked at, and may be held
pub record TalliesMore (places : ℕ) (d : Data) (eq : ℕ) (old new : Tally) : Type 0 where
  pub added : List Row
  pub rows : AreRowsOf places d (instances_of d eq) added
  pub fit : list_all (row_fits places d) (instances_of d eq) ≡ true
  pub entries : new.entries ≡ old.entries + entries_in places d (instances_of d eq)
  pub before : new.before.items ≡ old.before.items ++ old.rows ∷ []
  pub held : KeepsRows eq added old.held.items new.held.items
  pub counts : Counts added old new
  pub variables : AreSameVariables (found_variables new) (found_variables old ++ entry_variables added)

-- the instances of the first equations
abbrev pub names_to : Data → ℕ → List RowName
names_to d n = flat_map (instances_of d) (range_with_len 1 n)

-- how many rows stand before each of the first equations
abbrev pub rows_before : Data → ℕ → List ℕ
rows_before d n = map (λ eq. length (names_to d (eq - 1))) (range_with_len 1 n)

-- the rows of the first equations were made and looked at
pub record AreTallied (places : ℕ) (d : Data) (n : ℕ) (t : Tally) : Type 0 where
  pub all : List Row
  pub rows : AreRowsOf places d (names_to d n) all
  pub fit : list_all (row_fits places d) (names_to d n) ≡ true
  pub entries : t.entries ≡ entries_in places d (names_to d n)
  pub number : t.rows ≡ length (names_to d n)
  pub before : t.before.items ≡ rows_before d n
  pub held : AreHeld places d t.held.items
  pub kinds : Marks t.kinds.items (map contents_of all)
  pub variables : AreSameVariables (found_variables t) (entry_variables all)
