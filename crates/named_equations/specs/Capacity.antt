-- Capacity adequacy A and B of the OSeMOSYS long code: capacity adds up over the years, and activity stays within it.
use Rattle.std.specs.Prelude.{ℕ, ◌+◌, ℤ, pos, ◌+ℤ◌, ◌*ℤ◌, Bool, ◌&&◌, List, filter, nat_le, nat_lt}
use Rattle.model_sets.specs.Data.{Data}
use Rattle.row_core.specs.declared.Var.{Var}
use Rattle.row_core.specs.Statements.{Statement}
use Rattle.named_equations.specs.Notation.{◌equals◌, ◌at_most◌, sum_over, scale_of}
use Rattle.named_equations.specs.Parameters.{year_split, capacity_to_activity_unit, capacity_factor, availability_factor, residual_capacity}
use Rattle.named_equations.specs.Positions.{all_years, timeslices, modes, number_of_year}
use Rattle.named_equations.specs.Variables.{rate_of_activity, new_capacity, accumulated_new_capacity, total_capacity_annual, rate_of_total_activity}
use Rattle.named_equations.specs.WrittenFactors.{life_of}

-- what was built in year yy still counts in year y: 0 <= y - yy < OperationalLife[r,t], in the numbers of the years
abbrev pub still_counts : Data → ℕ → ℕ → ℕ → ℕ → Bool
still_counts d r t y yy =
    nat_le (number_of_year d yy) (number_of_year d y)
    && nat_lt (number_of_year d y) (number_of_year d yy + life_of d r t)

-- the years whose new capacity counts in year y
abbrev pub years_counting : Data → ℕ → ℕ → ℕ → List ℕ
years_counting d r t y = filter (still_counts d r t y) (all_years d)

-- CAa1_TotalNewCapacity[r,t,y]: the accumulated new capacity is the sum of the new capacity of the years that count
abbrev pub caa1 : Data → ℕ → (Var → ℤ) → ℕ → ℕ → ℕ → Statement
caa1 d q x r t y =
    x (accumulated_new_capacity r t y)
    equals sum_over (years_counting d r t y) (λ yy. x (new_capacity r t yy))

-- CAa2_TotalAnnualCapacity[r,t,y]: the total capacity is the accumulated new capacity plus the residual capacity; times 10^9
abbrev pub caa2 : Data → ℕ → (Var → ℤ) → ℕ → ℕ → ℕ → Statement
caa2 d q x r t y =
    scale_of 1 *ℤ x (total_capacity_annual r t y)
    equals scale_of 1 *ℤ x (accumulated_new_capacity r t y) +ℤ residual_capacity d r t y *ℤ pos q

-- CAa3_TotalActivityOfEachTechnology[r,l,t,y]: the rate of total activity is the sum of the rates of activity over the modes
abbrev pub caa3 : Data → ℕ → (Var → ℤ) → ℕ → ℕ → ℕ → ℕ → Statement
caa3 d q x r l t y =
    x (rate_of_total_activity r l t y)
    equals sum_over (modes d) (λ m. x (rate_of_activity r l t m y))

-- CAa4_Constraint_Capacity[r,l,t,y]: the rate of total activity is at most what the capacity can do in the timeslice; times 10^18
abbrev pub caa4 : Data → ℕ → (Var → ℤ) → ℕ → ℕ → ℕ → ℕ → Statement
caa4 d q x r l t y =
    scale_of 2 *ℤ x (rate_of_total_activity r l t y)
    at_most x (total_capacity_annual r t y) *ℤ (capacity_factor d r t l y *ℤ capacity_to_activity_unit d r t)

-- CAb1_PlannedMaintenance[r,t,y]: the activity of the year is at most what the capacity can do in the part of the year for which it is available; times 10^36
abbrev pub cab1 : Data → ℕ → (Var → ℤ) → ℕ → ℕ → ℕ → Statement
cab1 d q x r t y =
    scale_of 3 *ℤ sum_over (timeslices d) (λ l. x (rate_of_total_activity r l t y) *ℤ year_split d l y)
    at_most x (total_capacity_annual r t y)
    *ℤ (sum_over (timeslices d) (λ l. capacity_factor d r t l y *ℤ year_split d l y) *ℤ availability_factor d r t y *ℤ capacity_to_activity_unit d r t)
