-- Demand, energy balance and accounting of the OSeMOSYS long code as terms: the rows of EQ_SpecifiedDemand, EBa1 to EBb4, and Acc1 to Acc3.
use Rattle.std.specs.Prelude.{ℕ, [], ◌∷◌}
use Rattle.model_sets.specs.Data.{Data}
use Rattle.param_tables.specs.Ratios.{nonzero_modes, nonzero_technologies}
use Rattle.row_core.specs.declared.Sense.TheVariants.{Least, Equal}
use Rattle.row_core.specs.Amounts.{Billionths, Product, Negative}
use Rattle.row_core.specs.EquationTerms.{EquationTerms, once, less, each, nothing}
use Rattle.named_equations.specs.Parameters.{year_split, specified_annual_demand, specified_demand_profile, trade_route, accumulated_annual_demand}
use Rattle.named_equations.specs.Positions.{regions, timeslices}
use Rattle.named_equations.specs.TermShapes.{is_made_of, is_times, sum_away, products_away}
use Rattle.named_equations.specs.Indices.{at_rfy, at_rlfy}
use Rattle.named_equations.specs.Variables.{variable, rate_of_activity, trade, rate_of_demand, rate_of_production_by_technology, rate_of_use_by_technology, production_by_technology, use_by_technology, production, use_of_fuel, demand, production_annual, use_annual, trade_annual, total_annual_technology_activity_by_mode}
use Rattle.balance_rows.specs.declared.flows.Flow.{Flow}
use Rattle.balance_rows.specs.Flows.{ratio_of, value_of_ratio, rate_in_mode, rate_of_technology, rate_of_all}

-- ---- demand

-- EQ_SpecifiedDemand[r,l,f,y]: RateOfDemand * YearSplit = SpecifiedAnnualDemand * SpecifiedDemandProfile
abbrev pub eq_specified_demand : Data → ℕ → ℕ → ℕ → ℕ → EquationTerms
eq_specified_demand d r l f y = record {
  terms = (rate_of_demand r l f y, Billionths (year_split d l y)) ∷ [];
  sense = Equal;
  right = Product (Billionths (specified_annual_demand d r f y)) (Billionths (specified_demand_profile d r f l y));
}

-- ---- production and use

-- EBa1 and EBa4[r,l,t,f,m,y]: the rate in a mode = RateOfActivity * the ratio
abbrev pub mode_flow : Flow → Data → ℕ → ℕ → ℕ → ℕ → ℕ → ℕ → EquationTerms
mode_flow flow d r l t f m y = is_times (rate_in_mode flow r l t f m y) (rate_of_activity r l t m y) (Billionths (value_of_ratio flow d r t f m y))

-- EBa2 and EBa5[r,l,t,f,y]: the rate of a technology is its sum over the modes in which the ratio isn't 0
abbrev pub technology_flow : Flow → Data → ℕ → ℕ → ℕ → ℕ → ℕ → EquationTerms
technology_flow flow d r l t f y =
    is_made_of (rate_of_technology flow r l t f y) (sum_away (nonzero_modes d (ratio_of flow) r t f y) (λ m. rate_in_mode flow r l t f m y))

-- EBa3 and EBa6[r,l,f,y]: the rate of all is its sum over the technologies that have such a mode
abbrev pub all_flow : Flow → Data → ℕ → ℕ → ℕ → ℕ → EquationTerms
all_flow flow d r l f y =
    is_made_of (rate_of_all flow r l f y) (sum_away (nonzero_technologies d (ratio_of flow) r f y) (λ t. rate_of_technology flow r l t f y))

-- ---- each timeslice

-- EBa7, EBa8 and EBa9[r,l,f,y]: Production, Use or Demand = its rate * YearSplit
abbrev pub fuel_in_slice : ℕ → ℕ → Data → ℕ → ℕ → ℕ → ℕ → EquationTerms
fuel_in_slice kind rate d r l f y = is_times (variable kind (at_rlfy r l f y)) (variable rate (at_rlfy r l f y)) (Billionths (year_split d l y))

-- EBa10[r,rr,l,f,y]: Trade[r,rr] + Trade[rr,r] = 0
abbrev pub eba10 : Data → ℕ → ℕ → ℕ → ℕ → ℕ → EquationTerms
eba10 d r rr l f y = record { terms = once (trade r rr l f y) ∷ once (trade rr r l f y) ∷ []; sense = Equal; right = nothing }

-- EBa11[r,l,f,y]: Production - Demand - Use - the sum over rr of Trade * TradeRoute >= 0
abbrev pub eba11 : Data → ℕ → ℕ → ℕ → ℕ → EquationTerms
eba11 d r l f y = record {
  terms =
      once (production r l f y) ∷ less (demand r l f y) ∷ less (use_of_fuel r l f y)
      ∷ each (regions d) (λ rr. (trade r rr l f y, Negative (Billionths (trade_route d r rr f y))));
  sense = Least;
  right = nothing;
}

-- ---- each year

-- EBb1 and EBb2[r,f,y]: ProductionAnnual or UseAnnual is the sum of Production or Use over the timeslices
abbrev pub fuel_in_year : ℕ → ℕ → Data → ℕ → ℕ → ℕ → EquationTerms
fuel_in_year kind part d r f y = is_made_of (variable kind (at_rfy r f y)) (sum_away (timeslices d) (λ l. variable part (at_rlfy r l f y)))

-- EBb3[r,rr,f,y]: TradeAnnual is the sum of Trade over the timeslices
abbrev pub ebb3 : Data → ℕ → ℕ → ℕ → ℕ → EquationTerms
ebb3 d r rr f y = is_made_of (trade_annual r rr f y) (sum_away (timeslices d) (λ l. trade r rr l f y))

-- EBb4[r,f,y]: ProductionAnnual - UseAnnual - the sum over rr of TradeAnnual * TradeRoute >= AccumulatedAnnualDemand
abbrev pub ebb4 : Data → ℕ → ℕ → ℕ → EquationTerms
ebb4 d r f y = record {
  terms =
      once (production_annual r f y) ∷ less (use_annual r f y)
      ∷ each (regions d) (λ rr. (trade_annual r rr f y, Negative (Billionths (trade_route d r rr f y))));
  sense = Least;
  right = Billionths (accumulated_annual_demand d r f y);
}

-- ---- accounting

-- Acc1[r,l,t,f,y]: ProductionByTechnology = RateOfProductionByTechnology * YearSplit
abbrev pub acc1 : Data → ℕ → ℕ → ℕ → ℕ → ℕ → EquationTerms
acc1 d r l t f y = is_times (production_by_technology r l t f y) (rate_of_production_by_technology r l t f y) (Billionths (year_split d l y))

-- Acc2[r,l,t,f,y]: UseByTechnology = RateOfUseByTechnology * YearSplit
abbrev pub acc2 : Data → ℕ → ℕ → ℕ → ℕ → ℕ → EquationTerms
acc2 d r l t f y = is_times (use_by_technology r l t f y) (rate_of_use_by_technology r l t f y) (Billionths (year_split d l y))

-- Acc3[r,t,m,y]: TotalAnnualTechnologyActivityByMode - the sum over l of RateOfActivity * YearSplit = 0
abbrev pub acc3 : Data → ℕ → ℕ → ℕ → ℕ → EquationTerms
acc3 d r t m y =
    is_made_of (total_annual_technology_activity_by_mode r t m y) (products_away (timeslices d) (λ l. rate_of_activity r l t m y) (λ l. Billionths (year_split d l y)))
