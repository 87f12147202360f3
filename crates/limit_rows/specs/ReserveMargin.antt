-- The reserve margin of the OSeMOSYS long code as terms: the rows of RM1, RM2 and RM3.
use Rattle.std.specs.Prelude.{ℕ}
use Rattle.model_sets.specs.Data.{Data}
use Rattle.row_core.specs.Amounts.{Amount, Billionths, Product}
use Rattle.row_core.specs.EquationTerms.{EquationTerms}
use Rattle.named_equations.specs.Parameters.{capacity_to_activity_unit, reserve_margin_tag_technology, reserve_margin_tag_fuel, reserve_margin}
use Rattle.named_equations.specs.Positions.{technologies, fuels}
use Rattle.named_equations.specs.Variables.{total_capacity_annual, rate_of_production, total_capacity_in_reserve_margin, demand_needing_reserve_margin}
use Rattle.named_equations.specs.TermShapes.{is_covered, is_made_of, products_away}

-- what a unit of a technology's capacity adds to the margin: ReserveMarginTagTechnology * CapacityToActivityUnit
abbrev pub unit_in_margin : Data → ℕ → ℕ → ℕ → Amount
unit_in_margin d r t y = Product (Billionths (reserve_margin_tag_technology d r t y)) (Billionths (capacity_to_activity_unit d r t))

-- RM1[r,y]: TotalCapacityInReserveMargin is the sum over t of TotalCapacityAnnual * (ReserveMarginTagTechnology * CapacityToActivityUnit)
abbrev pub rm1 : Data → ℕ → ℕ → EquationTerms
rm1 d r y = is_made_of (total_capacity_in_reserve_margin r y) (products_away (technologies d) (λ t. total_capacity_annual r t y) (λ t. unit_in_margin d r t y))

-- RM2[r,l,y]: DemandNeedingReserveMargin is the sum over f of RateOfProduction * ReserveMarginTagFuel
abbrev pub rm2 : Data → ℕ → ℕ → ℕ → EquationTerms
rm2 d r l y =
    is_made_of (demand_needing_reserve_margin r l y) (products_away (fuels d) (λ f. rate_of_production r l f y) (λ f. Billionths (reserve_margin_tag_fuel d r f y)))

-- RM3[r,l,y]: DemandNeedingReserveMargin * ReserveMargin - TotalCapacityInReserveMargin <= 0
abbrev pub rm3 : Data → ℕ → ℕ → ℕ → EquationTerms
rm3 d r l y = is_covered (demand_needing_reserve_margin r l y) (reserve_margin d r y) (total_capacity_in_reserve_margin r y)
