-- A row in the place of another of its name.
use Rattle.std.specs.Prelude.{◌≡◌, ◌≢◌, ◌&&◌, ℤ, Bool, true, false, None, List, [], ◌∷◌, ◌++◌}
use Rattle.std.specs.Ordering.{is_eq}
use Rattle.row_core.specs.declared.Row.{Row}
use Rattle.row_core.specs.declared.Var.{Var}
use Rattle.row_core.specs.declared.Sense.TheVariants.{Equal}
use Rattle.row_core.specs.Order.{var_cmp}
use Rattle.named_equations.specs.Instances.{variable_of}

-- the entries are at the same variables
abbrev pub same_variables : List (Var × ℤ) → List (Var × ℤ) → Bool
same_variables [] [] = true
same_variables [] (other ∷ others) = false
same_variables (entry ∷ entries) [] = false
same_variables (entry ∷ entries) (other ∷ others) = is_eq (var_cmp entry.0 other.0) && same_variables entries others

-- Two inequalities of one name, which defines no variable, with entries at the same variables. In their numbers, their senses and their right sides they
-- may differ.
pub record AreTwins (before row : Row) : Type 0 where
  pub named : before.name ≡ row.name
  pub undefined : variable_of row.name ≡ None
  pub inequality : before.sense ≢ Equal
  pub inequality_too : row.sense ≢ Equal
  pub variables : same_variables before.entries.items row.entries.items ≡ true

-- the row stands in the place of its twin, and all others stand as they did
pub record IsReplaced (row : Row) (old new : List Row) : Type 0 where
  pub earlier : List Row
  pub before : Row
  pub later : List Row
  pub old_is : old ≡ earlier ++ before ∷ later
  pub new_is : new ≡ earlier ++ row ∷ later
  pub twins : AreTwins before row
