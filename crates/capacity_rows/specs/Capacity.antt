-- Capacity adequacy A and B of the OSeMOSYS long code as terms: the rows of CAa1 to CAb1.
use Rattle.std.specs.Prelude.{ℕ, [], ◌∷◌}
use Rattle.model_sets.specs.Data.{Data}
use Rattle.row_core.specs.declared.Sense.TheVariants.{Equal, Most}
use Rattle.row_core.specs.Amounts.{Amount, Billionths, Product, Negative, total_over}
use Rattle.row_core.specs.EquationTerms.{EquationTerms, once, less, each, nothing}
use Rattle.named_equations.specs.Capacity.{years_counting}
use Rattle.named_equations.specs.Parameters.{year_split, capacity_to_activity_unit, capacity_factor, availability_factor, residual_capacity}
use Rattle.named_equations.specs.Positions.{timeslices, modes}
use Rattle.named_equations.specs.Variables.{rate_of_activity, new_capacity, accumulated_new_capacity, total_capacity_annual, rate_of_total_activity}

-- CAa1[r,t,y]: AccumulatedNewCapacity - the sum of NewCapacity[r,t,yy] over the years yy that count = 0
abbrev pub caa1 : Data → ℕ → ℕ → ℕ → EquationTerms
caa1 d r t y = record {
  terms = once (accumulated_new_capacity r t y) ∷ each (years_counting d r t y) (λ yy. less (new_capacity r t yy));
  sense = Equal;
  right = nothing;
}

-- CAa2[r,t,y]: TotalCapacityAnnual - AccumulatedNewCapacity = ResidualCapacity
abbrev pub caa2 : Data → ℕ → ℕ → ℕ → EquationTerms
caa2 d r t y = record {
  terms = once (total_capacity_annual r t y) ∷ less (accumulated_new_capacity r t y) ∷ [];
  sense = Equal;
  right = Billionths (residual_capacity d r t y);
}

-- CAa3[r,l,t,y]: RateOfTotalActivity - the sum of RateOfActivity over the modes = 0
abbrev pub caa3 : Data → ℕ → ℕ → ℕ → ℕ → EquationTerms
caa3 d r l t y = record {
  terms = once (rate_of_total_activity r l t y) ∷ each (modes d) (λ m. less (rate_of_activity r l t m y));
  sense = Equal;
  right = nothing;
}

-- CAa4[r,l,t,y]: RateOfTotalActivity - TotalCapacityAnnual * (CapacityFactor * CapacityToActivityUnit) <= 0
abbrev pub caa4 : Data → ℕ → ℕ → ℕ → ℕ → EquationTerms
caa4 d r l t y = record {
  terms =
      once (rate_of_total_activity r l t y)
      ∷ (total_capacity_annual r t y, Negative (Product (Billionths (capacity_factor d r t l y)) (Billionths (capacity_to_activity_unit d r t))))
      ∷ [];
  sense = Most;
  right = nothing;
}

-- the sum over l of CapacityFactor * YearSplit
abbrev pub slices_capacity : Data → ℕ → ℕ → ℕ → Amount
slices_capacity d r t y = total_over (timeslices d) (λ l. Product (Billionths (capacity_factor d r t l y)) (Billionths (year_split d l y)))

-- what a unit of capacity can do in a year: that sum, times AvailabilityFactor, times CapacityToActivityUnit
abbrev pub year_capacity : Data → ℕ → ℕ → ℕ → Amount
year_capacity d r t y =
    Product (Product (slices_capacity d r t y) (Billionths (availability_factor d r t y))) (Billionths (capacity_to_activity_unit d r t))

-- CAb1[r,t,y]: the sum over l of RateOfTotalActivity * YearSplit - TotalCapacityAnnual * year_capacity <= 0; by variable
abbrev pub cab1 : Data → ℕ → ℕ → ℕ → EquationTerms
cab1 d r t y = record {
  terms =
      (total_capacity_annual r t y, Negative (year_capacity d r t y))
      ∷ each (timeslices d) (λ l. (rate_of_total_activity r l t y, Billionths (year_split d l y)));
  sense = Most;
  right = nothing;
}
