-- Renewable energy target of the OSeMOSYS long code: what tagged technologies produce, of any fuel, is at least a part of the production of tagged fuels.
use Rattle.std.specs.Prelude.{ℕ, ℤ, ◌*ℤ◌}
use Rattle.model_sets.specs.Data.{Data}
use Rattle.row_core.specs.declared.Var.{Var}
use Rattle.row_core.specs.Statements.{Statement}
use Rattle.named_equations.specs.Notation.{◌equals◌, ◌at_most◌, sum_over, scale_of}
use Rattle.named_equations.specs.Parameters.{year_split, re_tag_technology, re_tag_fuel, re_min_production_target}
use Rattle.named_equations.specs.Positions.{technologies, fuels, timeslices}
use Rattle.named_equations.specs.Variables.{rate_of_production, production_by_technology, use_by_technology, production_by_technology_annual, total_re_production_annual, re_total_production_of_target_fuel_annual, use_by_technology_annual}
use Rattle.named_equations.specs.Where.{produced_fuels}

-- RE1_FuelProductionByTechnologyAnnual[r,t,f,y], where the technology produces the fuel: its annual production is the sum over the timeslices
abbrev pub re1 : Data → ℕ → (Var → ℤ) → ℕ → ℕ → ℕ → ℕ → Statement
re1 d q x r t f y =
    x (production_by_technology_annual r t f y)
    equals sum_over (timeslices d) (λ l. x (production_by_technology r l t f y))

-- RE2_TechIncluded[r,y]: renewable production is the sum over the technologies, and over the fuels that each makes, of production times the technology's tag; times 10^9
abbrev pub re2 : Data → ℕ → (Var → ℤ) → ℕ → ℕ → Statement
re2 d q x r y =
    scale_of 1 *ℤ x (total_re_production_annual r y)
    equals sum_over (technologies d) (λ t. sum_over (produced_fuels d r t y) (λ f. x (production_by_technology_annual r t f y) *ℤ re_tag_technology d r t y))

-- RE3_FuelIncluded[r,y]: the production of the target's fuels is the sum over the timeslices and fuels of the rate of production times the timeslice's part of the year times the fuel's tag; times 10^18
abbrev pub re3 : Data → ℕ → (Var → ℤ) → ℕ → ℕ → Statement
re3 d q x r y =
    scale_of 2 *ℤ x (re_total_production_of_target_fuel_annual r y)
    equals sum_over (timeslices d) (λ l. sum_over (fuels d) (λ f. x (rate_of_production r l f y) *ℤ (year_split d l y *ℤ re_tag_fuel d r f y)))

-- RE4_EnergyConstraint[r,y]: renewable production is at least the target's part of that production; times 10^9
abbrev pub re4 : Data → ℕ → (Var → ℤ) → ℕ → ℕ → Statement
re4 d q x r y =
    re_min_production_target d r y *ℤ x (re_total_production_of_target_fuel_annual r y)
    at_most scale_of 1 *ℤ x (total_re_production_annual r y)

-- RE5_FuelUseByTechnologyAnnual[r,t,f,y], where the technology uses the fuel: its annual use is the sum over the timeslices
abbrev pub re5 : Data → ℕ → (Var → ℤ) → ℕ → ℕ → ℕ → ℕ → Statement
re5 d q x r t f y =
    x (use_by_technology_annual r t f y)
    equals sum_over (timeslices d) (λ l. x (use_by_technology r l t f y))
