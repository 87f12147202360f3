-- Expanded definitions as the code keeps them: rows by variable.
use Rattle.std.specs.Prelude.{◌≡◌, pos, ◌<ℤ◌, List, map, IfSome}
use Rattle.std.specs.BTreeMap.{BTreeMap, get}
use Rattle.row_core.specs.declared.Row.{Row}
use Rattle.row_core.specs.declared.Sense.TheVariants.{Equal}
use Rattle.row_core.specs.declared.Var.{Var}
use Rattle.row_core.specs.Forms.{Form, form_of}
use Rattle.row_core.specs.Order.{var_cmp}
use Rattle.row_core.specs.Rows.{number_at}
use Rattle.variable_elimination.specs.Reductions.{IsReducedOne}

abbrev pub form_entry : Var × Row → Var × Form
form_entry entry = (entry.0, form_of entry.1)

-- the variables with the forms of their rows
abbrev pub forms_in : BTreeMap Var Row → List (Var × Form)
forms_in definitions = map form_entry definitions.entries

-- each row is an equation with a positive entry at its variable
abbrev pub AreDefinitions : BTreeMap Var Row → Type 0
AreDefinitions definitions = (v : Var) → IfSome (get var_cmp definitions v) (λ row. (row.sense ≡ Equal) × (pos 0 <ℤ number_at row.entries.items v))

-- each is reduced from one of the named rows
abbrev pub AreReduced : List Row → BTreeMap Var Row → Type 0
AreReduced named definitions = (v : Var) → IfSome (get var_cmp definitions v) (IsReducedOne named)
