-- Which rows a table of prices has to show, in words of the named equations: limits, which are the inequalities that are neither capacity adequacy nor the
-- balance of a fuel, and these balances.
use Rattle.std.specs.Prelude.{◌≡◌, ◌≢◌, ℕ, ℤ, Bool, true, false, ◌==◌, ◌||◌}
use Rattle.model_sets.specs.Data.{Data}
use Rattle.row_core.specs.declared.RowName.{RowName}
use Rattle.row_core.specs.declared.Sense.TheVariants.{Equal}
use Rattle.row_core.specs.declared.Var.{Var}
use Rattle.row_core.specs.declared.equation_numbers.TheConstants.{CAA4, CAB1, EBA11, EBB4}
use Rattle.named_equations.specs.Instances.{is_instance}
use Rattle.named_equations.specs.Plans.{says}
use Rattle.price_tables.specs.declared.shown.PriceTable.{PriceTable}
use Rattle.price_tables.specs.declared.shown.PriceTable.TheVariants.{Fuels, Limits}

-- the equation asks for enough capacity, in a timeslice or over a year
abbrev pub asks_for_capacity : ℕ → Bool
asks_for_capacity eq = eq == CAA4 || eq == CAB1

-- the equation is the balance of a fuel, in a timeslice or over a year
abbrev pub balances_fuel : ℕ → Bool
balances_fuel eq = eq == EBA11 || eq == EBB4

-- the data have the equation at the index, it is an inequality, and it is neither of these
pub record IsLimit (places : ℕ) (d : Data) (name : RowName) : Type 0 where
  pub stands : is_instance d name ≡ true
  pub unequal : (q : ℕ) (x : Var → ℤ) → (says places d q x name).sign ≢ Equal
  pub no_adequacy : asks_for_capacity name.eq ≡ false
  pub no_balance : balances_fuel name.eq ≡ false

-- the table has to show the row of this name, unless its multiplier is 0
abbrev pub IsToBeShown : ℕ → Data → PriceTable → RowName → Type 0
IsToBeShown places d Limits name = IsLimit places d name
IsToBeShown places d Fuels name = balances_fuel name.eq ≡ true
