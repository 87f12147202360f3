-- Reserve margin of the OSeMOSYS long code: tagged capacity covers tagged production with a margin, in each timeslice.
use Rattle.std.specs.Prelude.{ℕ, ℤ, ◌*ℤ◌}
use Rattle.model_sets.specs.Data.{Data}
use Rattle.row_core.specs.declared.Var.{Var}
use Rattle.row_core.specs.Statements.{Statement}
use Rattle.named_equations.specs.Notation.{◌equals◌, ◌at_most◌, sum_over, scale_of}
use Rattle.named_equations.specs.Parameters.{capacity_to_activity_unit, reserve_margin_tag_technology, reserve_margin_tag_fuel, reserve_margin}
use Rattle.named_equations.specs.Positions.{technologies, fuels}
use Rattle.named_equations.specs.Variables.{total_capacity_annual, rate_of_production, total_capacity_in_reserve_margin, demand_needing_reserve_margin}

-- RM1_ReserveMargin_TechnologiesIncluded_In_Activity_Units[r,y]: the capacity in the margin is the sum over the technologies of capacity times tag times unit; times 10^18
abbrev pub rm1 : Data → ℕ → (Var → ℤ) → ℕ → ℕ → Statement
rm1 d q x r y =
    scale_of 2 *ℤ x (total_capacity_in_reserve_margin r y)
    equals sum_over (technologies d) (λ t. x (total_capacity_annual r t y) *ℤ (reserve_margin_tag_technology d r t y *ℤ capacity_to_activity_unit d r t))

-- RM2_ReserveMargin_FuelsIncluded[r,l,y]: the demand that needs the margin is the sum over the fuels of the rate of production times the fuel's tag; times 10^9
abbrev pub rm2 : Data → ℕ → (Var → ℤ) → ℕ → ℕ → ℕ → Statement
rm2 d q x r l y =
    scale_of 1 *ℤ x (demand_needing_reserve_margin r l y)
    equals sum_over (fuels d) (λ f. x (rate_of_production r l f y) *ℤ reserve_margin_tag_fuel d r f y)

-- RM3_ReserveMargin_Constraint[r,l,y]: that demand times the margin is at most the capacity in the margin; times 10^9
abbrev pub rm3 : Data → ℕ → (Var → ℤ) → ℕ → ℕ → ℕ → Statement
rm3 d q x r l y =
    x (demand_needing_reserve_margin r l y) *ℤ reserve_margin d r y
    at_most scale_of 1 *ℤ x (total_capacity_in_reserve_margin r y)
