-- The elimination: the definitions are expanded one after another, then the rows that define nothing, and the row of the cost last.
use Rattle.std.specs.Prelude.{ℤ, pos, negsuc, Bool, true, false, not, ◌&&◌, ◌||◌, ◌==◌, nat_lt, List, [], ◌∷◌, ◌++◌, map, filter, flat_map, Option, Some, None, if◌then◌else◌}
use Rattle.std.specs.Ordering.{is_eq}
use Rattle.std.specs.declared.cmp.Ordering.{Ordering}
use Rattle.std.specs.declared.cmp.Ordering.TheVariants.{Less, Equal as Alike, Greater}
use Rattle.exact_num.specs.Rational.{whole}
use Rattle.exact_num.specs.Steps.{Step}
use Rattle.row_core.specs.declared.Row.{Row}
use Rattle.row_core.specs.declared.RowName.{RowName}
use Rattle.row_core.specs.declared.Sense.{Sense}
use Rattle.row_core.specs.declared.Var.{Var}
use Rattle.row_core.specs.declared.kind_numbers.TheConstants.{RATE_OF_ACTIVITY, NEW_CAPACITY, TRADE, TOTAL_DISCOUNTED_COST}
use Rattle.row_core.specs.declared.place.Place.{Place}
use Rattle.row_core.specs.declared.place.Place.TheVariants.{Expand, CostRow}
use Rattle.row_core.specs.Forms.{Form, form_of}
use Rattle.row_core.specs.Numbers.{variables_of}
use Rattle.row_core.specs.Order.{var_cmp}
use Rattle.row_core.specs.Statements.{stands}
use Rattle.written_method.specs.Definitions.{Definition, definitions_of, others_of}
use Rattle.written_method.specs.Expanded.{Scaled, expanded, expanded_formed}

-- ---- definitions

abbrev pub unscaled : Form → Scaled
unscaled form = record { form = form; scale = None }

-- each definition without the variables that were defined before it
abbrev pub expanded_all : List (Var × Form) → List Definition → List (Var × Form)
expanded_all before [] = before
expanded_all before (d ∷ ds) = expanded_all ((d.variable, (expanded before (unscaled (form_of d.row))).form) ∷ before) ds

-- one step for each definition
abbrev pub definition_steps : List (Var × Form) → List Definition → List (Step Place)
definition_steps before [] = []
definition_steps before (d ∷ ds) =
    record { place = Expand d.row.name; formed = expanded_formed before (unscaled (form_of d.row)) }
    ∷ definition_steps ((d.variable, (expanded before (unscaled (form_of d.row))).form) ∷ before) ds

-- ---- the rows that define nothing

-- a row at the start: its scale is 1
abbrev pub at_first : Row → Scaled
at_first row = record { form = form_of row; scale = Some (whole (pos 1)) }

-- a reduced row: the name and the sense of its named row, its form and scale
pub record ReducedRow : Type 0 where
  pub name : RowName
  pub sense : Sense
  pub scaled : Scaled

abbrev pub reduced_row : List (Var × Form) → Row → ReducedRow
reduced_row defs row = record { name = row.name; sense = row.sense; scaled = expanded defs (at_first row) }

abbrev pub has_entries : List (Var × ℤ) → Bool
has_entries [] = false
has_entries (e ∷ es) = true

-- a row without entries is kept only where it is false of 0
abbrev pub is_kept : ReducedRow → Bool
is_kept r = has_entries r.scaled.form.entries || not (stands r.sense (pos 0) r.scaled.form.right)

abbrev pub reduced_rows : List (Var × Form) → List Row → List ReducedRow
reduced_rows defs rows = filter is_kept (map (reduced_row defs) rows)

-- one step for each row
abbrev pub row_steps : List (Var × Form) → List Row → List (Step Place)
row_steps defs [] = []
row_steps defs (row ∷ rows) = record { place = Expand row.name; formed = expanded_formed defs (at_first row) } ∷ row_steps defs rows

-- ---- columns

-- a variable that a plan chooses freely: RateOfActivity, NewCapacity, or the Trade of two regions in their order
abbrev pub is_column : Var → Bool
is_column v = (v.kind == RATE_OF_ACTIVITY) || ((v.kind == NEW_CAPACITY) || ((v.kind == TRADE) && nat_lt v.index.region v.index.other))

-- those of all entries, row by row
abbrev pub column_entries : List Row → List Var
column_entries rows = flat_map (λ row. filter is_column (variables_of row.entries.items)) rows

-- ---- the cost

-- the variable that stands for the cost, z: there is no kind 0
abbrev pub cost_variable : Var
cost_variable = record { kind = 0; index = record { region = 0; other = 0; slice = 0; tech = 0; fuel = 0; emission = 0; mode = 0; year = 0 } }

-- a variable put at its place among ascending ones, unless it is there
abbrev pub placed : Var → List Var → List Var
placed v [] = v ∷ []
placed v (w ∷ ws) =
    elim (var_cmp v w) [
      | Less ↦ v ∷ w ∷ ws
      | Alike ↦ w ∷ ws
      | Greater ↦ w ∷ placed v ws
    ]

-- a defined variable of which the cost is the sum is put at its place
abbrev pub with_cost_variable : List Var → Option Var → List Var
with_cost_variable so_far None = so_far
with_cost_variable so_far (Some v) = if v.kind == TOTAL_DISCOUNTED_COST then placed v so_far else so_far

-- all of these, ascending
abbrev pub cost_variables : List Var → List (Option Var) → List Var
cost_variables so_far [] = so_far
cost_variables so_far (def ∷ defs) = cost_variables (with_cost_variable so_far def) defs

abbrev pub minus_one_at : Var → Var × ℤ
minus_one_at v = (v, negsuc 0)

-- z less all of them is 0
abbrev pub cost_form : List (Option Var) → Form
cost_form defs = record { entries = (cost_variable, pos 1) ∷ map minus_one_at (cost_variables [] defs); right = pos 0 }

-- that row without defined variables
abbrev pub cost_row : List (Var × Form) → List (Option Var) → Form
cost_row forms defs = (expanded forms (unscaled (cost_form defs))).form

-- the entries but that of a key
abbrev pub other_entries : {K : Type 0} → (K → K → Ordering) → K → List (K × ℤ) → List (K × ℤ)
other_entries cmp key [] = []
other_entries cmp key (e ∷ es) = if is_eq (cmp e.0 key) then other_entries cmp key es else (e ∷ other_entries cmp key es)

-- ---- all steps

abbrev pub elimination_steps : List Row → List (Option Var) → List (Step Place)
elimination_steps rows defs =
    definition_steps [] (definitions_of rows defs)
    ++ (row_steps (expanded_all [] (definitions_of rows defs)) (others_of rows defs)
    ++ record { place = CostRow; formed = expanded_formed (expanded_all [] (definitions_of rows defs)) (unscaled (cost_form defs)) } ∷ [])
