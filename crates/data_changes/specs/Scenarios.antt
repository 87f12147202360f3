-- Changes that change nothing, and changes that may be made in either order.
use Rattle.std.specs.Prelude.{◌≡◌, ◌⊎◌, pos, List, ℕ, false, ◌&&◌, Contains}
use Rattle.model_sets.specs.Data.{Data, indices_of}
use Rattle.param_tables.specs.Changes.{Change, names_index}
use Rattle.param_tables.specs.declared.change.ChangeKind.TheVariants.{Add, Multiply}

-- the change multiplies by 1, or adds 0
abbrev pub IsIdle : Change → Type 0
IsIdle change = ((change.kind ≡ Multiply) × (change.amount ≡ pos 1000000000)) ⊎ ((change.kind ≡ Add) × (change.amount ≡ pos 0))

-- where both are of one parameter, none of its indices is named by both
abbrev pub AreApart : Data → Change → Change → Type 0
AreApart d a b = a.param ≡ b.param → (index : List (List ℕ)) → Contains (indices_of d.sets a.param) index → (names_index a index && names_index b index) ≡ false
