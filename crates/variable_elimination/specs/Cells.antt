-- The columns of rows as the code keeps them.
use Rattle.std.specs.Prelude.{◌≡◌, ℤ, Bool, true, false, ◌||◌, List, [], ◌∷◌, ◌++◌, Option, Some, None, if◌then◌else◌}
use Rattle.std.specs.BTreeMap.{BTreeMap, get}
use Rattle.std.specs.Global.{Vec}
use Rattle.std.specs.Ordering.{is_eq}
use Rattle.row_core.specs.declared.Row.{Row}
use Rattle.row_core.specs.declared.RowName.{RowName}
use Rattle.row_core.specs.declared.Var.{Var}
use Rattle.row_core.specs.Columns.{column_of}
use Rattle.row_core.specs.Order.{var_cmp}

abbrev pub items_of : Option (Vec (RowName × ℤ)) → Option (List (RowName × ℤ))
items_of None = None
items_of (Some cells) = Some cells.items

-- what is kept at a variable
abbrev pub cells_at : BTreeMap Var (Vec (RowName × ℤ)) → Var → Option (List (RowName × ℤ))
cells_at columns v = items_of (get var_cmp columns v)

-- the variable is one of those that are given
abbrev pub is_given : List (Option Var) → Var → Bool
is_given [] v = false
is_given (None ∷ defs) v = is_given defs v
is_given (Some w ∷ defs) v = is_eq (var_cmp v w) || is_given defs v

-- each of these variables has a place for a column, with nothing in it
abbrev pub AreEmpty : List (Option Var) → BTreeMap Var (Vec (RowName × ℤ)) → Type 0
AreEmpty defs columns = (v : Var) → is_given defs v ≡ true → cells_at columns v ≡ Some []

-- one more such place, if there is one more variable
abbrev pub IsNextEmpty : Option Var → BTreeMap Var (Vec (RowName × ℤ)) → BTreeMap Var (Vec (RowName × ℤ)) → Type 0
IsNextEmpty variable old new = (v : Var) → cells_at new v ≡ (if is_given (variable ∷ []) v then Some [] else cells_at old v)

-- what a column has is followed by more
abbrev pub AreFollowed : (Var → List (RowName × ℤ)) → BTreeMap Var (Vec (RowName × ℤ)) → BTreeMap Var (Vec (RowName × ℤ)) → Type 0
AreFollowed more old new = (v : Var) (so_far : List (RowName × ℤ)) → cells_at old v ≡ Some so_far → cells_at new v ≡ Some (so_far ++ more v)

-- the columns of these variables are those of the rows
abbrev pub HaveColumns : List (Option Var) → List Row → BTreeMap Var (Vec (RowName × ℤ)) → Type 0
HaveColumns defs rows columns = (v : Var) → is_given defs v ≡ true → cells_at columns v ≡ Some (column_of rows v)

-- one cell, in the column of its variable
abbrev pub cell_in : Var → RowName → ℤ → Var → List (RowName × ℤ)
cell_in w name number v = if is_eq (var_cmp w v) then ((name, number) ∷ []) else []
