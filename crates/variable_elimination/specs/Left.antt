-- What is left of the variables: no defined one, and of the others only those that a plan chooses.
use Rattle.std.specs.Prelude.{◌≡◌, ℤ, Bool, true, ◌&&◌, ◌||◌, List, [], ◌∷◌, ⊤, IsTrue}
use Rattle.row_core.specs.declared.Row.{Row}
use Rattle.row_core.specs.declared.Var.{Var}
use Rattle.written_method.specs.declared.reduced.Reduced.{Reduced}
use Rattle.written_method.specs.Definitions.{is_among, avoids}
use Rattle.written_method.specs.Eliminated.{is_column}

-- each variable is one of the list, or a plan chooses it
abbrev pub are_known : List Var → List (Var × ℤ) → Bool
are_known vars [] = true
are_known vars (e ∷ es) = (is_among vars e.0 || is_column e.0) && are_known vars es

-- and so in each row
abbrev pub AreKnown : List Var → List Row → Type 0
AreKnown vars [] = ⊤
AreKnown vars (row ∷ rows) = IsTrue (are_known vars row.entries.items) × AreKnown vars rows

-- no row has an entry at one of the variables
abbrev pub AvoidAll : List Var → List Row → Type 0
AvoidAll vars [] = ⊤
AvoidAll vars (row ∷ rows) = IsTrue (avoids vars row.entries.items) × AvoidAll vars rows

-- and neither has the cost
pub record IsWithout (vars : List Var) (made : Reduced) : Type 0 where
  pub rows : AvoidAll vars made.rows.items
  pub cost : avoids vars made.cost.items ≡ true
