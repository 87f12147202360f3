-- What a report says of costs, as sums over RateOfActivity and NewCapacity alone. Each is stated at the scale that its comment names, which makes it
-- whole: 10^9 for each data value, and 10^places for each written factor.
use Rattle.std.specs.Prelude.{ℕ, ℤ, pos, ◌+ℤ◌, ◌-ℤ◌, ◌*ℤ◌, if◌then◌else◌}
use Rattle.model_sets.specs.Data.{Data}
use Rattle.row_core.specs.declared.Var.{Var}
use Rattle.named_equations.specs.Notation.{sum_over, scale_of, factor_scale}
use Rattle.named_equations.specs.Parameters.{capital_cost, variable_cost, fixed_cost, emission_activity_ratio, emissions_penalty}
use Rattle.named_equations.specs.Positions.{technologies, emissions, years_since_first, years_in_all}
use Rattle.named_equations.specs.Salvage.{has_sv1, has_sv2}
use Rattle.named_equations.specs.Variables.{new_capacity}
use Rattle.named_equations.specs.WrittenFactors.{annuity_of, capital_factor_of, operating_factor_of, recovery_factor_of, salvage_fraction_of}
use Rattle.plan_quantities.specs.Sums.{activity_in, over_slices_and_modes, capacity_in_all}

-- the scale of two written factors, and of three
abbrev pub two_factors : ℕ → ℤ
two_factors places = factor_scale places *ℤ factor_scale places

abbrev pub three_factors : ℕ → ℤ
three_factors places = two_factors places *ℤ factor_scale places

-- what is paid for an investment of 1: 1, or under profile 2 the recovery factor times the annuity; times two factors
abbrev pub paid_for_one : ℕ → Data → ℕ → ℕ → ℤ
paid_for_one places d r t = if d.second then recovery_factor_of places d r t *ℤ annuity_of places d r t else two_factors places

-- the part of an investment that is left at the end of the model period: by the sinking fund where SV1 stands, by the straight line where SV2 does, and
-- else none; times a factor
abbrev pub part_left : ℕ → Data → ℕ → ℕ → ℕ → ℤ
part_left places d r t y =
    if has_sv1 d r t y then salvage_fraction_of places d 1 r t y
    else if has_sv2 d r t y then salvage_fraction_of places d 2 r t y
    else pos 0

-- DiscountedCapitalInvestment[r,t,y]: what is built times its capital cost, as it is paid and discounted; times 10^9 and three factors
abbrev pub investment : ℕ → Data → ℕ → (Var → ℤ) → ℕ → ℕ → ℕ → ℤ
investment places d q x r t y =
    x (new_capacity r t y) *ℤ capital_cost d r t y *ℤ paid_for_one places d r t *ℤ capital_factor_of places d r (years_since_first d y)

-- DiscountedOperatingCost[r,t,y]: activity times its variable cost, and total capacity times its fixed cost, discounted; times 10^18 and a factor
abbrev pub operation : ℕ → Data → ℕ → (Var → ℤ) → ℕ → ℕ → ℕ → ℤ
operation places d q x r t y =
    (over_slices_and_modes d (λ l m. activity_in d x r l t m y *ℤ variable_cost d r t m y) +ℤ capacity_in_all d q x r t y *ℤ fixed_cost d r t y)
    *ℤ operating_factor_of places d r (years_since_first d y)

-- DiscountedTechnologyEmissionsPenalty[r,t,y]: over the emissions, activity times the emission ratio times the penalty, discounted; times 10^27 and a factor
abbrev pub penalty : ℕ → Data → ℕ → (Var → ℤ) → ℕ → ℕ → ℕ → ℤ
penalty places d q x r t y =
    sum_over (emissions d) (λ e. over_slices_and_modes d (λ l m. activity_in d x r l t m y *ℤ emission_activity_ratio d r t e m y *ℤ emissions_penalty d r e y))
    *ℤ operating_factor_of places d r (years_since_first d y)

-- DiscountedSalvageValue[r,t,y]: what is built times its capital cost times the part left, discounted from the end of the model period; times 10^9 and two factors
abbrev pub salvage : ℕ → Data → ℕ → (Var → ℤ) → ℕ → ℕ → ℕ → ℤ
salvage places d q x r t y =
    x (new_capacity r t y) *ℤ capital_cost d r t y *ℤ part_left places d r t y *ℤ capital_factor_of places d r (years_in_all d)

-- TotalDiscountedCost[r,y]: over the technologies, operation, investment and penalty less salvage, each at one scale; times 10^27 and three factors
abbrev pub cost_of_year : ℕ → Data → ℕ → (Var → ℤ) → ℕ → ℕ → ℤ
cost_of_year places d q x r y =
    sum_over (technologies d) (λ t.
    scale_of 1 *ℤ two_factors places *ℤ operation places d q x r t y +ℤ scale_of 2 *ℤ investment places d q x r t y
    +ℤ two_factors places *ℤ penalty places d q x r t y -ℤ scale_of 2 *ℤ factor_scale places *ℤ salvage places d q x r t y)
