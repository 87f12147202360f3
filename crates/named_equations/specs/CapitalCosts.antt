-- Capital costs of the OSeMOSYS long code: what is built is paid at the beginning of its year. Under profile 2, as in its later editions, the
-- investment is what a payment in each year of the technology's life, by the technology's own rate, is worth at the region's.
use Rattle.std.specs.Prelude.{ℕ, ℤ, ◌*ℤ◌, if◌then◌else◌}
use Rattle.model_sets.specs.Data.{Data}
use Rattle.row_core.specs.declared.Var.{Var}
use Rattle.row_core.specs.Statements.{Statement}
use Rattle.named_equations.specs.Notation.{◌equals◌, scale_of, factor_scale}
use Rattle.named_equations.specs.Parameters.{capital_cost}
use Rattle.named_equations.specs.Positions.{years_since_first}
use Rattle.named_equations.specs.Variables.{new_capacity, capital_investment, discounted_capital_investment}
use Rattle.named_equations.specs.WrittenFactors.{annuity_of, capital_factor_of, recovery_factor_of}

-- under profile 1 the investment is the capital cost times the new capacity; times 10^9
abbrev pub paid_at_once : Data → (Var → ℤ) → ℕ → ℕ → ℕ → Statement
paid_at_once d x r t y = scale_of 1 *ℤ x (capital_investment r t y) equals capital_cost d r t y *ℤ x (new_capacity r t y)

-- under profile 2 it is the capital cost times the recovery factor, times the annuity, times the new capacity; times 10^9 and twice the scale of a factor
abbrev pub recovered : ℕ → Data → (Var → ℤ) → ℕ → ℕ → ℕ → Statement
recovered places d x r t y =
    scale_of 1 *ℤ factor_scale places *ℤ factor_scale places *ℤ x (capital_investment r t y)
    equals capital_cost d r t y *ℤ recovery_factor_of places d r t *ℤ annuity_of places d r t *ℤ x (new_capacity r t y)

-- CC1_UndiscountedCapitalInvestment[r,t,y], by the profile of the data
abbrev pub cc1 : ℕ → Data → ℕ → (Var → ℤ) → ℕ → ℕ → ℕ → Statement
cc1 places d q x r t y = if d.second then recovered places d x r t y else paid_at_once d x r t y

-- CC2[r,t,y]: the discounted investment is the investment times the capital factor of the years since the first; times the scale of a factor
abbrev pub cc2 : ℕ → Data → ℕ → (Var → ℤ) → ℕ → ℕ → ℕ → Statement
cc2 places d q x r t y =
    factor_scale places *ℤ x (discounted_capital_investment r t y)
    equals x (capital_investment r t y) *ℤ capital_factor_of places d r (years_since_first d y)
