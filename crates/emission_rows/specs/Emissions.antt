-- Emissions of the OSeMOSYS long code as terms: the rows of E1 to E9.
use Rattle.std.specs.Prelude.{ℕ, [], ◌∷◌}
use Rattle.model_sets.specs.Data.{Data}
use Rattle.row_core.specs.declared.Sense.TheVariants.{Equal, Most}
use Rattle.row_core.specs.Amounts.{Billionths, Factor, Negative, Total}
use Rattle.row_core.specs.EquationTerms.{EquationTerms, once}
use Rattle.named_equations.specs.Parameters.{emission_activity_ratio, emissions_penalty, annual_exogenous_emission, annual_emission_limit, model_period_exogenous_emission, model_period_emission_limit}
use Rattle.named_equations.specs.Positions.{technologies, emissions, all_years, years_since_first}
use Rattle.named_equations.specs.TermShapes.{is_limited, is_made_of, is_times, sum_away}
use Rattle.named_equations.specs.Variables.{total_annual_technology_activity_by_mode, annual_technology_emission_by_mode, annual_technology_emission, annual_technology_emission_penalty_by_emission, annual_technology_emissions_penalty, discounted_technology_emissions_penalty, annual_emissions, model_period_emissions}
use Rattle.named_equations.specs.Where.{emitting_modes}
use Rattle.named_equations.specs.WrittenFactors.{operating_factor_of}

-- ---- emissions of technologies, and their penalty

-- E1[r,t,e,m,y]: AnnualTechnologyEmissionByMode - TotalAnnualTechnologyActivityByMode * EmissionActivityRatio = 0
abbrev pub e1 : Data → ℕ → ℕ → ℕ → ℕ → ℕ → EquationTerms
e1 d r t e m y =
    is_times (annual_technology_emission_by_mode r t e m y) (total_annual_technology_activity_by_mode r t m y) (Billionths (emission_activity_ratio d r t e m y))

-- E2[r,t,e,y]: AnnualTechnologyEmission is the sum of AnnualTechnologyEmissionByMode over the modes that emit
abbrev pub e2 : Data → ℕ → ℕ → ℕ → ℕ → EquationTerms
e2 d r t e y = is_made_of (annual_technology_emission r t e y) (sum_away (emitting_modes d r t e y) (λ m. annual_technology_emission_by_mode r t e m y))

-- E3[r,t,e,y]: AnnualTechnologyEmissionPenaltyByEmission - AnnualTechnologyEmission * EmissionsPenalty = 0
abbrev pub e3 : Data → ℕ → ℕ → ℕ → ℕ → EquationTerms
e3 d r t e y =
    is_times (annual_technology_emission_penalty_by_emission r t e y) (annual_technology_emission r t e y) (Billionths (emissions_penalty d r e y))

-- E4[r,t,y]: AnnualTechnologyEmissionsPenalty is the sum over e of AnnualTechnologyEmissionPenaltyByEmission
abbrev pub e4 : Data → ℕ → ℕ → ℕ → EquationTerms
e4 d r t y = is_made_of (annual_technology_emissions_penalty r t y) (sum_away (emissions d) (λ e. annual_technology_emission_penalty_by_emission r t e y))

-- E5[r,t,y]: DiscountedTechnologyEmissionsPenalty - AnnualTechnologyEmissionsPenalty * o = 0, o being the operating factor of the years since the first
abbrev pub e5 : ℕ → Data → ℕ → ℕ → ℕ → EquationTerms
e5 places d r t y =
    is_times (discounted_technology_emissions_penalty r t y) (annual_technology_emissions_penalty r t y) (Factor places (operating_factor_of places d r (years_since_first d y)))

-- ---- emissions of regions, and their limits

-- E6[r,e,y]: AnnualEmissions is the sum over t of AnnualTechnologyEmission
abbrev pub e6 : Data → ℕ → ℕ → ℕ → EquationTerms
e6 d r e y = is_made_of (annual_emissions r e y) (sum_away (technologies d) (λ t. annual_technology_emission r t e y))

-- E7[r,e]: ModelPeriodEmissions - the sum over y of AnnualEmissions = ModelPeriodExogenousEmission
abbrev pub e7 : Data → ℕ → ℕ → EquationTerms
e7 d r e = record {
  terms = once (model_period_emissions r e) ∷ sum_away (all_years d) (λ y. annual_emissions r e y);
  sense = Equal;
  right = Billionths (model_period_exogenous_emission d r e);
}

-- E8[r,e,y]: AnnualEmissions <= AnnualEmissionLimit - AnnualExogenousEmission
abbrev pub e8 : Data → ℕ → ℕ → ℕ → EquationTerms
e8 d r e y = record {
  terms = once (annual_emissions r e y) ∷ [];
  sense = Most;
  right = Total (Billionths (annual_emission_limit d r e y)) (Negative (Billionths (annual_exogenous_emission d r e y)));
}

-- E9[r,e]: ModelPeriodEmissions <= ModelPeriodEmissionLimit
abbrev pub e9 : Data → ℕ → ℕ → EquationTerms
e9 d r e = is_limited Most (model_period_emissions r e) (model_period_emission_limit d r e)
