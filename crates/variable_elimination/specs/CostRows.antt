-- The row of the cost.
use Rattle.std.specs.Prelude.{◌≡◌, List, [], ◌∷◌, Option, ⊤}
use Rattle.row_core.specs.declared.Row.{Row}
use Rattle.row_core.specs.declared.Var.{Var}
use Rattle.row_core.specs.declared.kind_numbers.TheConstants.{TOTAL_DISCOUNTED_COST}
use Rattle.row_core.specs.Forms.{Form, form_of}
use Rattle.row_core.specs.Order.{var_cmp}
use Rattle.row_core.specs.Rows.{number_at}
use Rattle.written_method.specs.declared.reduced.Reduced.{Reduced}
use Rattle.written_method.specs.Eliminated.{cost_form, cost_variable, other_entries}
use Rattle.variable_elimination.specs.Reductions.{IsReducedBy}

-- the cost is a sum of such variables
abbrev pub AllAreCosts : List Var → Type 0
AllAreCosts [] = ⊤
AllAreCosts (v ∷ vs) = (v.kind ≡ TOTAL_DISCOUNTED_COST) × AllAreCosts vs

-- the row is a positive multiple of the row that says what the cost is, plus multiples of the definitions
pub record IsCostRow (definitions : List Row) (defs : List (Option Var)) (row : Row) : Type 0 where
  pub first : Row
  pub form : form_of first ≡ cost_form defs
  pub reduced : IsReducedBy definitions first row

-- some row of this form is
pub record IsCostReduced (definitions : List Row) (defs : List (Option Var)) (form : Form) : Type 0 where
  pub row : Row
  pub is : form_of row ≡ form
  pub cost_row : IsCostRow definitions defs row

-- the cost is that of the form, with the number of the cost's own variable apart
pub record IsCostOf (form : Form) (made : Reduced) : Type 0 where
  pub cost : made.cost.items ≡ other_entries var_cmp cost_variable form.entries
  pub right_side : made.cost_rhs ≡ form.right
  pub own : made.cost_own ≡ number_at form.entries cost_variable
