-- Which rows define which variables, and that definitions can be taken one after another.
use Rattle.std.specs.Prelude.{◌≡◌, ℕ, ◌<◌, ℤ, pos, ◌<ℤ◌, ◌⊎◌, ◌==◌, List, Some, None, slice_get, Contains, if◌then◌else◌}
use Rattle.row_core.specs.declared.Row.{Row}
use Rattle.row_core.specs.declared.Sense.TheVariants.{Equal}
use Rattle.row_core.specs.declared.Var.{Var}
use Rattle.row_core.specs.declared.kind_numbers.TheConstants.{RATE_OF_ACTIVITY, NEW_CAPACITY, TRADE, TOTAL_DISCOUNTED_COST}
use Rattle.row_core.specs.Numbers.{variables_of}
use Rattle.row_core.specs.Rows.{number_at}
use Rattle.named_equations.specs.Instances.{variable_of}
use Rattle.row_core.specs.RowLists.{entry_variables}

-- the row defines the variable: the named equation that it is the row of does
abbrev pub Defines : Row → Var → Type 0
Defines row v = variable_of row.name ≡ Some v

-- the row has an entry at the variable
abbrev pub HasEntry : Row → Var → Type 0
HasEntry row v = Contains (variables_of row.entries.items) v

-- the row stands at this position
abbrev pub IsAt : List Row → ℕ → Row → Type 0
IsAt rows i row = slice_get rows i ≡ Some row

-- a variable that a plan chooses: RateOfActivity, NewCapacity, or the Trade of two regions in their order
abbrev pub IsChosen : Var → Type 0
IsChosen v = (v.kind ≡ RATE_OF_ACTIVITY) ⊎ ((v.kind ≡ NEW_CAPACITY) ⊎ ((v.kind ≡ TRADE) × (v.index.region < v.index.other)))

-- some row defines the variable
pub record IsDefinedIn (rows : List Row) (v : Var) : Type 0 where
  pub row : Row
  pub among : Contains rows row
  pub defines : Defines row v

-- some row that defines a variable has the same entries and the same right side
pub record IsRepeatedIn (rows : List Row) (row : Row) : Type 0 where
  pub other : Row
  pub variable : Var
  pub among : Contains rows other
  pub defines : Defines other variable
  pub entries : other.entries.items ≡ row.entries.items
  pub right_side : other.rhs ≡ row.rhs

-- Every variable can be had from chosen ones, row by row. A row that defines a variable is an equation with a positive entry there, and has
-- no entry at a variable that a later row defines. No variable is defined twice, and one that isn't defined is chosen. An equation that
-- defines nothing says what another one says.
pub record AreTriangular (rows : List Row) : Type 0 where
  pub solvable : (i : ℕ) (row : Row) (v : Var) → IsAt rows i row → Defines row v → (row.sense ≡ Equal) × (pos 0 <ℤ number_at row.entries.items v)
  pub backward : (i j : ℕ) (row later : Row) (v w : Var) → i < j → IsAt rows i row → IsAt rows j later → Defines row v → Defines later w → HasEntry row w → ⊥
  pub once : (i j : ℕ) (row other : Row) (v : Var) → IsAt rows i row → IsAt rows j other → Defines row v → Defines other v → i ≡ j
  pub whole : (v : Var) → Contains (entry_variables rows) v → IsChosen v ⊎ IsDefinedIn rows v
  pub repeated : (i : ℕ) (row : Row) → IsAt rows i row → row.sense ≡ Equal → variable_of row.name ≡ None → IsRepeatedIn rows row

-- the coefficient of a variable in the cost, which is the sum of the variables TotalDiscountedCost
abbrev pub cost_of : Var → ℤ
cost_of v = if v.kind == TOTAL_DISCOUNTED_COST then pos 1 else pos 0
