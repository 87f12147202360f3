-- Definitions are expanded one after another: what holds before those that are left.
use Rattle.std.specs.Prelude.{◌≡◌, pos, true, cond, List, [], ◌∷◌, ◌++◌, Option, Some, ⊤}
use Rattle.std.specs.BTreeMap.{BTreeMap, get}
use Rattle.std.specs.Ordering.{is_eq}
use Rattle.exact_num.specs.Steps.{first_wide}
use Rattle.row_core.specs.declared.Row.{Row}
use Rattle.row_core.specs.declared.Var.{Var}
use Rattle.row_core.specs.declared.place.Place.{Place}
use Rattle.row_core.specs.declared.place.Stopped.{Stopped}
use Rattle.row_core.specs.declared.place.Stopped.TheVariants.{Width, Memory}
use Rattle.row_core.specs.Forms.{Form, form_of}
use Rattle.row_core.specs.Order.{var_cmp}
use Rattle.row_core.specs.Rows.{number_at}
use Rattle.written_method.specs.Definitions.{Definition, rows_of, defined, is_among, AreTriangular}
use Rattle.written_method.specs.Eliminated.{unscaled, expanded_all, definition_steps}
use Rattle.written_method.specs.Expanded.{definition_among, expanded}
use Rattle.variable_elimination.specs.Kept.{forms_in, AreDefinitions, AreReduced}
use Rattle.variable_elimination.specs.Reductions.{IsReducedBy}

-- the stop is at the first step that forms a number that doesn't fit; a stop out of memory has no cause
abbrev pub IsFirst : Option Place → Stopped → Type 0
IsFirst first (Width place) = first ≡ Some place
IsFirst first Memory = ⊤

-- at each variable the rows have the form that the list has
abbrev pub HaveForms : BTreeMap Var Row → List (Var × Form) → Type 0
HaveForms definitions forms = (v : Var) → definition_among (forms_in definitions) v ≡ definition_among forms v

-- none of the rows has an entry at the variable
abbrev pub HaveNone : Var → List Row → Type 0
HaveNone v [] = ⊤
HaveNone v (row ∷ rows) = (number_at row.entries.items v ≡ pos 0) × HaveNone v rows

-- one more expanded definition
pub record IsPushed (row : Row) (v : Var) (old new : BTreeMap Var Row) : Type 0 where
  pub made : Row
  pub updates : (w : Var) → get var_cmp new w ≡ cond (is_eq (var_cmp v w)) (Some made) (get var_cmp old w)
  pub sense : made.sense ≡ row.sense
  pub form : form_of made ≡ (expanded (forms_in old) (unscaled (form_of row))).form
  pub reduced : (named : List Row) → AreReduced named old → IsReducedBy named row made

-- those so far are reduced by rows without the variables that are left; what all make and form is what those that are left make and form
pub record IsSoFar (all rest : List Definition) (definitions : BTreeMap Var Row) : Type 0 where
  pub named : List Row
  pub forms : List (Var × Form)
  pub whole : rows_of all ≡ named ++ rows_of rest
  pub have : HaveForms definitions forms
  pub made : expanded_all forms rest ≡ expanded_all [] all
  pub steps : first_wide (definition_steps [] all) ≡ first_wide (definition_steps forms rest)
  pub reduced : AreReduced named definitions
  pub apart : (v : Var) → is_among (defined rest) v ≡ true → HaveNone v named
  pub usable : AreDefinitions definitions
  pub triangular : AreTriangular rest
