-- What a linear program has to be before it is solved.
use Rattle.std.specs.Prelude.{◌≡◌, ◌≢◌, ◌+◌, ◌<◌, ◌^◌, ◌⊎◌, ⊤, pos, ◌<ℤ◌, true, ℤ, List, [], ◌∷◌, length}
use Rattle.exact_num.specs.Range.{InRange, all_fit}
use Rattle.row_core.specs.declared.Row.{Row}
use Rattle.row_core.specs.declared.Sense.TheVariants.{Equal}
use Rattle.row_core.specs.declared.Var.{Var}
use Rattle.row_core.specs.Numbers.{ascends, numbers_of, variables_of}
use Rattle.row_core.specs.Order.{var_cmp}
use Rattle.written_method.specs.FirstTableau.{width_of}
use Rattle.written_method.specs.Programs.{Inequality, LinearProgram}
use Rattle.written_method.specs.declared.reduced.Reduced.{Reduced}

-- the variable is one of the list
abbrev pub IsAmong : Var → List Var → Type 0
IsAmong v [] = ⊥
IsAmong v (w ∷ ws) = (v ≡ w) ⊎ IsAmong v ws

-- the variable of each entry is
abbrev pub AreAmong : List Var → List (Var × ℤ) → Type 0
AreAmong vs [] = ⊤
AreAmong vs (entry ∷ entries) = IsAmong entry.0 vs × AreAmong vs entries

-- and so for each row
abbrev pub RowsAreAmong : List Var → List Row → Type 0
RowsAreAmong vs [] = ⊤
RowsAreAmong vs (row ∷ rows) = AreAmong vs row.entries.items × RowsAreAmong vs rows

-- variables and the cost ascend strictly, and every variable of a row and of the cost is among the variables; the numbers of the cost fit,
-- and that of z is above 0; and the columns can be counted
pub record IsReady (r : Reduced) : Type 0 where
  pub columns : ascends var_cmp r.columns.items ≡ true
  pub rows_among : RowsAreAmong r.columns.items r.rows.items
  pub cost_ascends : ascends var_cmp (variables_of r.cost.items) ≡ true
  pub cost_among : AreAmong r.columns.items r.cost.items
  pub cost_fits : all_fit (numbers_of r.cost.items) ≡ true
  pub right_fits : InRange r.cost_rhs
  pub own_fits : InRange r.cost_own
  pub own_positive : pos 0 <ℤ r.cost_own
  pub countable : width_of r.columns.items + length r.rows.items + 1 < 2 ^ 64

-- each row is an inequality, its variables ascend, and they are among the variables
abbrev pub ArePosed : List Var → List Inequality → Type 0
ArePosed vs [] = ⊤
ArePosed vs (row ∷ rows) = (row.sense ≢ Equal) × (ascends var_cmp (variables_of row.entries) ≡ true) × AreAmong vs row.entries × ArePosed vs rows

-- a linear program of inequalities, of which the values and multipliers of the method's ends are said to be solutions
pub record IsPosed (p : LinearProgram) : Type 0 where
  pub columns : ascends var_cmp p.columns ≡ true
  pub rows : ArePosed p.columns p.rows
  pub cost_ascends : ascends var_cmp (variables_of p.cost) ≡ true
  pub cost_among : AreAmong p.columns p.cost
  pub cost_positive : pos 0 <ℤ p.cost_own
