-- Rows that define variables, one after another, and the rows that define none.
use Rattle.std.specs.Prelude.{◌≡◌, ℤ, pos, ◌<ℤ◌, Bool, true, false, not, ◌&&◌, ◌||◌, List, [], ◌∷◌, Option, Some, None, ⊤, IsTrue}
use Rattle.std.specs.Ordering.{is_eq}
use Rattle.row_core.specs.declared.Row.{Row}
use Rattle.row_core.specs.declared.Sense.TheVariants.{Equal}
use Rattle.row_core.specs.declared.Var.{Var}
use Rattle.row_core.specs.Order.{var_cmp}
use Rattle.row_core.specs.Rows.{number_at}

-- a row, and the variable that it defines
pub record Definition : Type 0 where
  pub row : Row
  pub variable : Var

-- the definitions among rows, in order: the list says of each row which variable it defines, if it defines one
abbrev pub definitions_of : List Row → List (Option Var) → List Definition
definitions_of [] defs = []
definitions_of (row ∷ rows) [] = []
definitions_of (row ∷ rows) (None ∷ defs) = definitions_of rows defs
definitions_of (row ∷ rows) (Some v ∷ defs) = record { row = row; variable = v } ∷ definitions_of rows defs

-- the rows that define nothing, in order
abbrev pub others_of : List Row → List (Option Var) → List Row
others_of [] defs = []
others_of (row ∷ rows) [] = []
others_of (row ∷ rows) (None ∷ defs) = row ∷ others_of rows defs
others_of (row ∷ rows) (Some v ∷ defs) = others_of rows defs

abbrev pub rows_of : List Definition → List Row
rows_of [] = []
rows_of (d ∷ ds) = d.row ∷ rows_of ds

abbrev pub defined : List Definition → List Var
defined [] = []
defined (d ∷ ds) = d.variable ∷ defined ds

-- the definition's number at its variable
abbrev pub own_of : Definition → ℤ
own_of d = number_at d.row.entries.items d.variable

-- the variable is one of the list
abbrev pub is_among : List Var → Var → Bool
is_among [] v = false
is_among (w ∷ ws) v = is_eq (var_cmp v w) || is_among ws v

-- no entry stands at one of the variables
abbrev pub avoids : List Var → List (Var × ℤ) → Bool
avoids vars [] = true
avoids vars (e ∷ es) = not (is_among vars e.0) && avoids vars es

-- an equation with a positive entry at its variable
pub record IsDefinition (d : Definition) : Type 0 where
  pub equal : d.row.sense ≡ Equal
  pub positive : pos 0 <ℤ own_of d

-- each is a definition, has no entry at a variable that is defined later, and no variable is defined twice
abbrev pub AreTriangular : List Definition → Type 0
AreTriangular [] = ⊤
AreTriangular (d ∷ ds) = IsDefinition d × IsTrue (avoids (defined ds) d.row.entries.items) × IsTrue (not (is_among (defined ds) d.variable)) × AreTriangular ds
