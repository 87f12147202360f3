-- Limits on activity of the OSeMOSYS long code: in each year (AAC), and in the whole model period (TAC).
-- A greatest annual activity of -1 is no limit, and 0 allows none; a greatest activity of the model period is a limit only above 0.
use Rattle.std.specs.Prelude.{ℕ, ℤ, pos, ◌*ℤ◌, Bool}
use Rattle.model_sets.specs.Data.{Data}
use Rattle.row_core.specs.declared.Var.{Var}
use Rattle.row_core.specs.Statements.{Statement}
use Rattle.named_equations.specs.Notation.{◌equals◌, ◌at_most◌, ◌at_least◌, sum_over, scale_of}
use Rattle.named_equations.specs.Parameters.{year_split, total_technology_annual_activity_upper_limit, total_technology_annual_activity_lower_limit, total_technology_model_period_activity_upper_limit, total_technology_model_period_activity_lower_limit}
use Rattle.named_equations.specs.Positions.{timeslices, all_years}
use Rattle.named_equations.specs.Variables.{rate_of_total_activity, total_technology_annual_activity, total_technology_model_period_activity}
use Rattle.named_equations.specs.Where.{is_limit, is_positive}

-- AAC1_TotalAnnualTechnologyActivity[r,t,y]: annual activity is the sum over the timeslices of its rate times their parts of the year; times 10^9
abbrev pub aac1 : Data → ℕ → (Var → ℤ) → ℕ → ℕ → ℕ → Statement
aac1 d q x r t y =
    scale_of 1 *ℤ x (total_technology_annual_activity r t y)
    equals sum_over (timeslices d) (λ l. x (rate_of_total_activity r l t y) *ℤ year_split d l y)

-- where a greatest annual activity is set, 0 included
abbrev pub has_aac2 : Data → ℕ → ℕ → ℕ → Bool
has_aac2 d r t y = is_limit (total_technology_annual_activity_upper_limit d r t y)

-- AAC2_TotalAnnualTechnologyActivityUpperLimit[r,t,y]: annual activity is at most its limit; times 10^9
abbrev pub aac2 : Data → ℕ → (Var → ℤ) → ℕ → ℕ → ℕ → Statement
aac2 d q x r t y =
    scale_of 1 *ℤ x (total_technology_annual_activity r t y)
    at_most total_technology_annual_activity_upper_limit d r t y *ℤ pos q

-- where a least annual activity is set
abbrev pub has_aac3 : Data → ℕ → ℕ → ℕ → Bool
has_aac3 d r t y = is_positive (total_technology_annual_activity_lower_limit d r t y)

-- AAC3_TotalAnnualTechnologyActivityLowerLimit[r,t,y]: annual activity is at least its limit; times 10^9
abbrev pub aac3 : Data → ℕ → (Var → ℤ) → ℕ → ℕ → ℕ → Statement
aac3 d q x r t y =
    scale_of 1 *ℤ x (total_technology_annual_activity r t y)
    at_least total_technology_annual_activity_lower_limit d r t y *ℤ pos q

-- TAC1[r,t]: the activity of the model period is the sum over the years
abbrev pub tac1 : Data → ℕ → (Var → ℤ) → ℕ → ℕ → Statement
tac1 d q x r t =
    x (total_technology_model_period_activity r t)
    equals sum_over (all_years d) (λ y. x (total_technology_annual_activity r t y))

-- where the greatest activity of the model period is above 0
abbrev pub has_tac2 : Data → ℕ → ℕ → Bool
has_tac2 d r t = is_positive (total_technology_model_period_activity_upper_limit d r t)

-- TAC2[r,t]: the activity of the model period is at most its limit; times 10^9
abbrev pub tac2 : Data → ℕ → (Var → ℤ) → ℕ → ℕ → Statement
tac2 d q x r t =
    scale_of 1 *ℤ x (total_technology_model_period_activity r t)
    at_most total_technology_model_period_activity_upper_limit d r t *ℤ pos q

-- where a least activity of the model period is set
abbrev pub has_tac3 : Data → ℕ → ℕ → Bool
has_tac3 d r t = is_positive (total_technology_model_period_activity_lower_limit d r t)

-- TAC3[r,t]: the activity of the model period is at least its limit; times 10^9
abbrev pub tac3 : Data → ℕ → (Var → ℤ) → ℕ → ℕ → Statement
tac3 d q x r t =
    scale_of 1 *ℤ x (total_technology_model_period_activity r t)
    at_least total_technology_model_period_activity_lower_limit d r t *ℤ pos q
