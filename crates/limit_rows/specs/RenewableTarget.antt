-- The renewable target of the OSeMOSYS long code as terms: the rows of RE1 to RE5.
use Rattle.std.specs.Prelude.{ℕ, List}
use Rattle.model_sets.specs.Data.{Data}
use Rattle.row_core.specs.declared.Var.{Var}
use Rattle.row_core.specs.Amounts.{Amount, Billionths, Product}
use Rattle.row_core.specs.EquationTerms.{EquationTerms}
use Rattle.named_equations.specs.Parameters.{year_split, re_tag_technology, re_tag_fuel, re_min_production_target}
use Rattle.named_equations.specs.Positions.{fuels, timeslices}
use Rattle.named_equations.specs.Variables.{rate_of_production, production_by_technology, use_by_technology, production_by_technology_annual, total_re_production_annual, re_total_production_of_target_fuel_annual, use_by_technology_annual}
use Rattle.named_equations.specs.Where.{producing_technologies}
use Rattle.named_equations.specs.TermShapes.{is_covered, is_made_of, sum_away, products_away, for_each}

-- RE1[r,t,f,y]: ProductionByTechnologyAnnual is the sum of ProductionByTechnology over the timeslices
abbrev pub re1 : Data → ℕ → ℕ → ℕ → ℕ → EquationTerms
re1 d r t f y = is_made_of (production_by_technology_annual r t f y) (sum_away (timeslices d) (λ l. production_by_technology r l t f y))

-- what these technologies make of a fuel, each times its RETagTechnology, taken away
abbrev pub products_of : Data → ℕ → ℕ → ℕ → List ℕ → List (Var × Amount)
products_of d r f y makers = products_away makers (λ t. production_by_technology_annual r t f y) (λ t. Billionths (re_tag_technology d r t y))

-- what is made of a fuel, by each of the technologies that make it
abbrev pub renewable_production : Data → ℕ → ℕ → ℕ → List (Var × Amount)
renewable_production d r f y = products_of d r f y (producing_technologies d r f y)

-- RE2[r,y]: TotalREProductionAnnual is the sum over f, and over the technologies t that make it, of ProductionByTechnologyAnnual * RETagTechnology
abbrev pub re2 : Data → ℕ → ℕ → EquationTerms
re2 d r y = is_made_of (total_re_production_annual r y) (for_each (fuels d) (λ f. renewable_production d r f y))

-- the part of a rate of production that counts for the target: YearSplit * RETagFuel
abbrev pub part_for_target : Data → ℕ → ℕ → ℕ → ℕ → Amount
part_for_target d r l f y = Product (Billionths (year_split d l y)) (Billionths (re_tag_fuel d r f y))

-- what is produced in a timeslice, of every fuel, as far as it counts for the target, taken away
abbrev pub target_production : Data → ℕ → ℕ → ℕ → List (Var × Amount)
target_production d r l y = products_away (fuels d) (λ f. rate_of_production r l f y) (λ f. part_for_target d r l f y)

-- RE3[r,y]: RETotalProductionOfTargetFuelAnnual is the sum over l and f of RateOfProduction * (YearSplit * RETagFuel)
abbrev pub re3 : Data → ℕ → ℕ → EquationTerms
re3 d r y = is_made_of (re_total_production_of_target_fuel_annual r y) (for_each (timeslices d) (λ l. target_production d r l y))

-- RE4[r,y]: RETotalProductionOfTargetFuelAnnual * REMinProductionTarget - TotalREProductionAnnual <= 0
abbrev pub re4 : Data → ℕ → ℕ → EquationTerms
re4 d r y = is_covered (re_total_production_of_target_fuel_annual r y) (re_min_production_target d r y) (total_re_production_annual r y)

-- RE5[r,t,f,y]: UseByTechnologyAnnual is the sum of UseByTechnology over the timeslices
abbrev pub re5 : Data → ℕ → ℕ → ℕ → ℕ → EquationTerms
re5 d r t f y = is_made_of (use_by_technology_annual r t f y) (sum_away (timeslices d) (λ l. use_by_technology r l t f y))
