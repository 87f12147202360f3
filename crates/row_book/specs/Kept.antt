-- What every book of rows keeps, whatever the data it was made of.
use Rattle.std.specs.Prelude.{◌≡◌, ℕ, true, pos, ◌<ℤ◌, List}
use Rattle.row_core.specs.declared.Row.{Row}
use Rattle.row_core.specs.declared.Sense.TheVariants.{Equal}
use Rattle.row_core.specs.declared.Var.{Var}
use Rattle.row_core.specs.Numbers.{ascends}
use Rattle.row_core.specs.Order.{row_name_cmp}
use Rattle.row_core.specs.Rows.{number_at}
use Rattle.row_core.specs.RowLists.{AreVariablesOf, names_of}
use Rattle.row_book.specs.Definitions.{AreTriangular, Defines, IsAt}
use Rattle.row_book.specs.Signs.{HaveSigns}

-- the rows ascend strictly by name, the variables are those of their entries, in strictly ascending order, and the rows that define variables are
-- triangular and have their signs
pub record IsBook (rows : List Row) (vars : List Var) : Type 0 where
  pub ascending : ascends row_name_cmp (names_of rows) ≡ true
  pub variables : AreVariablesOf rows vars
  pub definitions : AreTriangular rows
  pub signs : HaveSigns rows

-- the row at this position defines the variable: it is an equation with a positive entry there, and no other row defines that variable
pub record IsDefinedAt (rows : List Row) (i : ℕ) (v : Var) : Type 0 where
  pub there : (row : Row) × IsAt rows i row
  pub defines : (row : Row) → IsAt rows i row → Defines row v
  pub solvable : (row : Row) → IsAt rows i row → (row.sense ≡ Equal) × (pos 0 <ℤ number_at row.entries.items v)
  pub once : (j : ℕ) (other : Row) → IsAt rows j other → Defines other v → i ≡ j
