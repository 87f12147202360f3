-- What a technology does with a fuel, makes it or takes it: the ratio by which it does, and the variables of its rates.
use Rattle.std.specs.Prelude.{ℕ, ℤ}
use Rattle.model_sets.specs.Data.{Data}
use Rattle.param_tables.specs.declared.ratios.ActivityRatio.{ActivityRatio}
use Rattle.param_tables.specs.declared.ratios.ActivityRatio.TheVariants.{Input, Output}
use Rattle.row_core.specs.declared.Var.{Var}
use Rattle.named_equations.specs.Parameters.{input_activity_ratio, output_activity_ratio}
use Rattle.named_equations.specs.Variables.{rate_of_production_by_technology_by_mode, rate_of_production_by_technology, rate_of_production, rate_of_use_by_technology_by_mode, rate_of_use_by_technology, rate_of_use}
use Rattle.balance_rows.specs.declared.flows.Flow.{Flow}
use Rattle.balance_rows.specs.declared.flows.Flow.TheVariants.{Made, Taken}

-- the ratio: OutputActivityRatio of what is made, InputActivityRatio of what is taken
abbrev pub ratio_of : Flow → ActivityRatio
ratio_of Made = Output
ratio_of Taken = Input

-- its value
abbrev pub value_of_ratio : Flow → Data → ℕ → ℕ → ℕ → ℕ → ℕ → ℤ
value_of_ratio Made d r t f m y = output_activity_ratio d r t f m y
value_of_ratio Taken d r t f m y = input_activity_ratio d r t f m y

-- the rate of a technology in a mode: RateOfProductionByTechnologyByMode, or RateOfUseByTechnologyByMode
abbrev pub rate_in_mode : Flow → ℕ → ℕ → ℕ → ℕ → ℕ → ℕ → Var
rate_in_mode Made r l t f m y = rate_of_production_by_technology_by_mode r l t f m y
rate_in_mode Taken r l t f m y = rate_of_use_by_technology_by_mode r l t f m y

-- the rate of a technology: RateOfProductionByTechnology, or RateOfUseByTechnology
abbrev pub rate_of_technology : Flow → ℕ → ℕ → ℕ → ℕ → ℕ → Var
rate_of_technology Made r l t f y = rate_of_production_by_technology r l t f y
rate_of_technology Taken r l t f y = rate_of_use_by_technology r l t f y

-- the rate of all technologies: RateOfProduction, or RateOfUse
abbrev pub rate_of_all : Flow → ℕ → ℕ → ℕ → ℕ → Var
rate_of_all Made r l f y = rate_of_production r l f y
rate_of_all Taken r l f y = rate_of_use r l f y
