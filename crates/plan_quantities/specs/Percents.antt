-- What one per cent more of a limit saves at most.
use Rattle.std.specs.Prelude.{◌≡◌, ℕ, ◌*◌, negsuc, ℤ, pos, ◌<ℤ◌, List, Some, unsigned_abs}
use Rattle.exact_num.specs.Rational.{Rational}
use Rattle.model_sets.specs.Data.{Data}
use Rattle.row_core.specs.declared.Row.{Row}
use Rattle.row_core.specs.declared.RowName.{RowName}
use Rattle.row_core.specs.declared.Var.{Var}
use Rattle.price_tables.specs.PriceAmounts.{limit_of, percent_of, price_of}
use Rattle.plan_quantities.specs.Prices.{CostsAtLeast}
use Rattle.plan_quantities.specs.RowPrices.{FeasibleWithLess}

-- each plan that meets the row's equation with a hundredth of the limit more on the right side costs at least the bound, less what is saved
pub record IsPercentPromised (places : ℕ) (d : Data) (name : RowName) (p : Var) (bound limit saved : Rational) : Type 0 where
  pub bound_positive : pos 0 <ℤ bound.bottom
  pub saved_positive : pos 0 <ℤ saved.bottom
  pub costs : (q : ℕ) (x : Var → ℤ) → FeasibleWithLess places d name p limit.top (100 * unsigned_abs limit.bottom) q x → CostsAtLeast d q x bound saved (negsuc 0) 1

-- what the table writes for one per cent of a row's limit, where it writes a number, is promised
abbrev pub IsShownPercentPromised : ℕ → Data → List (RowName × Rational) → Rational → Row × Var → Type 0
IsShownPercentPromised places d multipliers bound e =
    (limit saved : Rational) → limit_of e.0 e.1 ≡ Some limit → percent_of (price_of multipliers e.0 e.1) (limit_of e.0 e.1) ≡ Some saved → IsPercentPromised places d e.0.name e.1 bound limit saved
