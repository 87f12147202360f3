-- Total discounted costs of the OSeMOSYS long code.
use Rattle.std.specs.Prelude.{ℕ, ℤ, ◌+ℤ◌, ◌-ℤ◌}
use Rattle.model_sets.specs.Data.{Data}
use Rattle.row_core.specs.declared.Var.{Var}
use Rattle.row_core.specs.Statements.{Statement}
use Rattle.named_equations.specs.Notation.{◌equals◌, sum_over}
use Rattle.named_equations.specs.Positions.{technologies}
use Rattle.named_equations.specs.Variables.{discounted_capital_investment, discounted_salvage_value, discounted_operating_cost, discounted_technology_emissions_penalty, total_discounted_cost_by_technology, total_discounted_cost}

-- TDC1_TotalDiscountedCostByTechnology[r,t,y]: a technology's cost is its operating cost, investment and emissions penalty, less its salvage value, all discounted
abbrev pub tdc1 : Data → ℕ → (Var → ℤ) → ℕ → ℕ → ℕ → Statement
tdc1 d q x r t y =
    x (total_discounted_cost_by_technology r t y)
    equals x (discounted_operating_cost r t y) +ℤ x (discounted_capital_investment r t y)
    +ℤ x (discounted_technology_emissions_penalty r t y) -ℤ x (discounted_salvage_value r t y)

-- TDC2_TotalDiscountedCost[r,y]: a region's cost of a year is the sum over the technologies
abbrev pub tdc2 : Data → ℕ → (Var → ℤ) → ℕ → ℕ → Statement
tdc2 d q x r y =
    x (total_discounted_cost r y)
    equals sum_over (technologies d) (λ t. x (total_discounted_cost_by_technology r t y))
