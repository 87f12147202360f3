-- Definitions of variables that aren't free make them of parts that are at least 0.
use Rattle.std.specs.Prelude.{◌≡◌, ◌≢◌, ℕ, false, pos, ◌≤ℤ◌, List}
use Rattle.row_core.specs.declared.Row.{Row}
use Rattle.row_core.specs.declared.Var.{Var}
use Rattle.row_core.specs.Kinds.{kind_is_free}
use Rattle.row_core.specs.Rows.{number_at}
use Rattle.row_book.specs.Definitions.{Defines, HasEntry, IsAt}

-- the variable isn't free: a plan may give it no value below 0
abbrev pub IsBounded : Var → Type 0
IsBounded v = kind_is_free v.kind ≡ false

-- The row has no entry at a free variable, none above 0 but the one at this variable, and a right side of at least 0. So where the others are
-- at least 0, and the row is an equation with a positive entry there, this one is too.
pub record IsMadeOfParts (row : Row) (v : Var) : Type 0 where
  pub bounded : (w : Var) → HasEntry row w → IsBounded w
  pub others : (w : Var) → w ≢ v → number_at row.entries.items w ≤ℤ pos 0
  pub right_side : pos 0 ≤ℤ row.rhs

-- each row that defines a variable that isn't free is of this form
abbrev pub HaveSigns : List Row → Type 0
HaveSigns rows = (i : ℕ) (row : Row) (v : Var) → IsAt rows i row → Defines row v → IsBounded v → IsMadeOfParts row v
