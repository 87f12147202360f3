-- Emissions accounting of the OSeMOSYS long code: what is given off, its penalty, and its limits.
use Rattle.std.specs.Prelude.{ℕ, ℤ, pos, ◌+ℤ◌, ◌-ℤ◌, ◌*ℤ◌, Bool}
use Rattle.model_sets.specs.Data.{Data}
use Rattle.row_core.specs.declared.Var.{Var}
use Rattle.row_core.specs.Statements.{Statement}
use Rattle.named_equations.specs.Notation.{◌equals◌, ◌at_most◌, sum_over, scale_of, factor_scale}
use Rattle.named_equations.specs.Parameters.{emission_activity_ratio, emissions_penalty, annual_exogenous_emission, annual_emission_limit, model_period_exogenous_emission, model_period_emission_limit}
use Rattle.named_equations.specs.Positions.{technologies, emissions, all_years, years_since_first}
use Rattle.named_equations.specs.Variables.{total_annual_technology_activity_by_mode, annual_technology_emission_by_mode, annual_technology_emission, annual_technology_emission_penalty_by_emission, annual_technology_emissions_penalty, discounted_technology_emissions_penalty, annual_emissions, model_period_emissions}
use Rattle.named_equations.specs.Where.{is_limit, emitting_modes}
use Rattle.named_equations.specs.WrittenFactors.{operating_factor_of}

-- ---- emissions of technologies, and their penalty

-- E1_AnnualEmissionProductionByMode[r,t,e,m,y], where the emission ratio isn't 0: a mode's emission is its ratio times the mode's annual activity; times 10^9
abbrev pub e1 : Data → ℕ → (Var → ℤ) → ℕ → ℕ → ℕ → ℕ → ℕ → Statement
e1 d q x r t e m y =
    scale_of 1 *ℤ x (annual_technology_emission_by_mode r t e m y)
    equals emission_activity_ratio d r t e m y *ℤ x (total_annual_technology_activity_by_mode r t m y)

-- E2_AnnualEmissionProduction[r,t,e,y]: a technology's emission is the sum over the modes that emit
abbrev pub e2 : Data → ℕ → (Var → ℤ) → ℕ → ℕ → ℕ → ℕ → Statement
e2 d q x r t e y =
    x (annual_technology_emission r t e y)
    equals sum_over (emitting_modes d r t e y) (λ m. x (annual_technology_emission_by_mode r t e m y))

-- E3_EmissionsPenaltyByTechAndEmission[r,t,e,y]: the penalty of an emission is the emission times its penalty; times 10^9
abbrev pub e3 : Data → ℕ → (Var → ℤ) → ℕ → ℕ → ℕ → ℕ → Statement
e3 d q x r t e y =
    scale_of 1 *ℤ x (annual_technology_emission_penalty_by_emission r t e y)
    equals x (annual_technology_emission r t e y) *ℤ emissions_penalty d r e y

-- E4_EmissionsPenaltyByTechnology[r,t,y]: a technology's penalty is the sum over the emissions
abbrev pub e4 : Data → ℕ → (Var → ℤ) → ℕ → ℕ → ℕ → Statement
e4 d q x r t y =
    x (annual_technology_emissions_penalty r t y)
    equals sum_over (emissions d) (λ e. x (annual_technology_emission_penalty_by_emission r t e y))

-- E5_DiscountedEmissionsPenaltyByTechnology[r,t,y]: the discounted penalty is the penalty times the operating factor of the years since the first; times the scale of a factor
abbrev pub e5 : ℕ → Data → ℕ → (Var → ℤ) → ℕ → ℕ → ℕ → Statement
e5 places d q x r t y =
    factor_scale places *ℤ x (discounted_technology_emissions_penalty r t y)
    equals x (annual_technology_emissions_penalty r t y) *ℤ operating_factor_of places d r (years_since_first d y)

-- ---- emissions of regions, and their limits

-- E6_EmissionsAccounting1[r,e,y]: a region's annual emissions are the sum over the technologies
abbrev pub e6 : Data → ℕ → (Var → ℤ) → ℕ → ℕ → ℕ → Statement
e6 d q x r e y =
    x (annual_emissions r e y)
    equals sum_over (technologies d) (λ t. x (annual_technology_emission r t e y))

-- E7_EmissionsAccounting2[r,e]: the emissions of the model period are the sum over the years plus the exogenous emission of the period; times 10^9
abbrev pub e7 : Data → ℕ → (Var → ℤ) → ℕ → ℕ → Statement
e7 d q x r e =
    scale_of 1 *ℤ x (model_period_emissions r e)
    equals scale_of 1 *ℤ sum_over (all_years d) (λ y. x (annual_emissions r e y)) +ℤ model_period_exogenous_emission d r e *ℤ pos q

-- where a limit of the year is set, 0 and numbers below -1 included
abbrev pub has_e8 : Data → ℕ → ℕ → ℕ → Bool
has_e8 d r e y = is_limit (annual_emission_limit d r e y)

-- E8_AnnualEmissionsLimit[r,e,y]: annual emissions are at most the limit, less the exogenous emission of the year; times 10^9
abbrev pub e8 : Data → ℕ → (Var → ℤ) → ℕ → ℕ → ℕ → Statement
e8 d q x r e y =
    scale_of 1 *ℤ x (annual_emissions r e y)
    at_most (annual_emission_limit d r e y -ℤ annual_exogenous_emission d r e y) *ℤ pos q

-- where a limit of the model period is set, 0 and numbers below -1 included
abbrev pub has_e9 : Data → ℕ → ℕ → Bool
has_e9 d r e = is_limit (model_period_emission_limit d r e)

-- E9_ModelPeriodEmissionsLimit[r,e]: the emissions of the model period are at most the limit; times 10^9
abbrev pub e9 : Data → ℕ → (Var → ℤ) → ℕ → ℕ → Statement
e9 d q x r e = scale_of 1 *ℤ x (model_period_emissions r e) at_most model_period_emission_limit d r e *ℤ pos q
