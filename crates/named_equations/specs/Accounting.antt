-- Accounting of the OSeMOSYS long code: each technology's production, use and activity, and each region's cost.
use Rattle.std.specs.Prelude.{ℕ, ℤ, ◌*ℤ◌}
use Rattle.model_sets.specs.Data.{Data}
use Rattle.row_core.specs.declared.Var.{Var}
use Rattle.row_core.specs.Statements.{Statement}
use Rattle.named_equations.specs.Notation.{◌equals◌, sum_over, scale_of}
use Rattle.named_equations.specs.Parameters.{year_split}
use Rattle.named_equations.specs.Positions.{timeslices, all_years}
use Rattle.named_equations.specs.Variables.{rate_of_activity, rate_of_production_by_technology, rate_of_use_by_technology, production_by_technology, use_by_technology, total_annual_technology_activity_by_mode, total_discounted_cost, model_period_cost_by_region}

-- Acc1_FuelProductionByTechnology[r,l,t,f,y], where the technology produces the fuel: a technology's production is its rate times the timeslice's part of the year; times 10^9
abbrev pub acc1 : Data → ℕ → (Var → ℤ) → ℕ → ℕ → ℕ → ℕ → ℕ → Statement
acc1 d q x r l t f y =
    scale_of 1 *ℤ x (production_by_technology r l t f y)
    equals x (rate_of_production_by_technology r l t f y) *ℤ year_split d l y

-- Acc2_FuelUseByTechnology[r,l,t,f,y], where the technology uses the fuel: a technology's use is its rate times the timeslice's part of the year; times 10^9
abbrev pub acc2 : Data → ℕ → (Var → ℤ) → ℕ → ℕ → ℕ → ℕ → ℕ → Statement
acc2 d q x r l t f y =
    scale_of 1 *ℤ x (use_by_technology r l t f y)
    equals x (rate_of_use_by_technology r l t f y) *ℤ year_split d l y

-- Acc3_AverageAnnualRateOfActivity[r,t,m,y]: a mode's annual activity is the sum over the timeslices of its rate times their parts of the year; times 10^9
abbrev pub acc3 : Data → ℕ → (Var → ℤ) → ℕ → ℕ → ℕ → ℕ → Statement
acc3 d q x r t m y =
    scale_of 1 *ℤ x (total_annual_technology_activity_by_mode r t m y)
    equals sum_over (timeslices d) (λ l. x (rate_of_activity r l t m y) *ℤ year_split d l y)

-- Acc4_ModelPeriodCostByRegion[r]: a region's cost is the sum of its discounted costs over the years
abbrev pub acc4 : Data → ℕ → (Var → ℤ) → ℕ → Statement
acc4 d q x r = x (model_period_cost_by_region r) equals sum_over (all_years d) (λ y. x (total_discounted_cost r y))
