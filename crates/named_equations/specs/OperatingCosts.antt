-- Operating costs of the OSeMOSYS long code: what running costs is paid in the middle of its year.
use Rattle.std.specs.Prelude.{ℕ, ℤ, ◌+ℤ◌, ◌*ℤ◌}
use Rattle.model_sets.specs.Data.{Data}
use Rattle.row_core.specs.declared.Var.{Var}
use Rattle.row_core.specs.Statements.{Statement}
use Rattle.named_equations.specs.Notation.{◌equals◌, sum_over, scale_of, factor_scale}
use Rattle.named_equations.specs.Parameters.{variable_cost, fixed_cost}
use Rattle.named_equations.specs.Positions.{modes, years_since_first}
use Rattle.named_equations.specs.Variables.{total_capacity_annual, total_annual_technology_activity_by_mode, annual_variable_operating_cost, annual_fixed_operating_cost, operating_cost, discounted_operating_cost}
use Rattle.named_equations.specs.WrittenFactors.{operating_factor_of}

-- OC1_OperatingCostsVariable[r,t,y]: the variable cost is the sum over the modes of annual activity times its cost; times 10^9
abbrev pub oc1 : Data → ℕ → (Var → ℤ) → ℕ → ℕ → ℕ → Statement
oc1 d q x r t y =
    scale_of 1 *ℤ x (annual_variable_operating_cost r t y)
    equals sum_over (modes d) (λ m. x (total_annual_technology_activity_by_mode r t m y) *ℤ variable_cost d r t m y)

-- OC2_OperatingCostsFixedAnnual[r,t,y]: the fixed cost is the total capacity times its cost; times 10^9
abbrev pub oc2 : Data → ℕ → (Var → ℤ) → ℕ → ℕ → ℕ → Statement
oc2 d q x r t y =
    scale_of 1 *ℤ x (annual_fixed_operating_cost r t y)
    equals x (total_capacity_annual r t y) *ℤ fixed_cost d r t y

-- OC3_OperatingCostsTotalAnnual[r,t,y]: the operating cost is the variable plus the fixed cost
abbrev pub oc3 : Data → ℕ → (Var → ℤ) → ℕ → ℕ → ℕ → Statement
oc3 d q x r t y =
    x (operating_cost r t y)
    equals x (annual_variable_operating_cost r t y) +ℤ x (annual_fixed_operating_cost r t y)

-- OC4_DiscountedOperatingCostsTotalAnnual[r,t,y]: the discounted operating cost is the operating cost times the operating factor of the years since the first; times the scale of a factor
abbrev pub oc4 : ℕ → Data → ℕ → (Var → ℤ) → ℕ → ℕ → ℕ → Statement
oc4 places d q x r t y =
    factor_scale places *ℤ x (discounted_operating_cost r t y)
    equals x (operating_cost r t y) *ℤ operating_factor_of places d r (years_since_first d y)
