-- What a report says of capacity, activity, energy and emissions, as sums over RateOfActivity, NewCapacity and Trade alone. Each is stated at the scale
-- that its comment names, which makes it whole.
use Rattle.std.specs.Prelude.{ℕ, ℤ, pos, ◌+ℤ◌, ◌*ℤ◌}
use Rattle.model_sets.specs.Data.{Data}
use Rattle.row_core.specs.declared.Var.{Var}
use Rattle.named_equations.specs.Capacity.{years_counting}
use Rattle.named_equations.specs.Notation.{sum_over, scale_of}
use Rattle.named_equations.specs.Parameters.{year_split, residual_capacity, output_activity_ratio, input_activity_ratio, emission_activity_ratio}
use Rattle.named_equations.specs.Positions.{technologies, modes, timeslices}
use Rattle.named_equations.specs.Variables.{rate_of_activity, new_capacity, trade}

-- the activity of a mode in a timeslice: its rate times the timeslice's part of the year; times 10^9
abbrev pub activity_in : Data → (Var → ℤ) → ℕ → ℕ → ℕ → ℕ → ℕ → ℤ
activity_in d x r l t m y = x (rate_of_activity r l t m y) *ℤ year_split d l y

-- the sum over the timeslices and the modes
abbrev pub over_slices_and_modes : Data → (ℕ → ℕ → ℤ) → ℤ
over_slices_and_modes d f = sum_over (timeslices d) (λ l. sum_over (modes d) (λ m. f l m))

-- NewCapacity[r,t,y]: what is built
abbrev pub capacity_built : Data → ℕ → (Var → ℤ) → ℕ → ℕ → ℕ → ℤ
capacity_built d q x r t y = x (new_capacity r t y)

-- TotalCapacityAnnual[r,t,y]: what was built in the years that still count, and the residual capacity; times 10^9
abbrev pub capacity_in_all : Data → ℕ → (Var → ℤ) → ℕ → ℕ → ℕ → ℤ
capacity_in_all d q x r t y = scale_of 1 *ℤ sum_over (years_counting d r t y) (λ yy. x (new_capacity r t yy)) +ℤ residual_capacity d r t y *ℤ pos q

-- TotalTechnologyAnnualActivity[r,t,y]: the activity of the timeslices and modes; times 10^9
abbrev pub activity_of_year : Data → ℕ → (Var → ℤ) → ℕ → ℕ → ℕ → ℤ
activity_of_year d q x r t y = over_slices_and_modes d (λ l m. activity_in d x r l t m y)

-- ProductionByTechnologyAnnual[r,t,f,y]: activity times the output ratio; times 10^18
abbrev pub production_of_year : Data → ℕ → (Var → ℤ) → ℕ → ℕ → ℕ → ℕ → ℤ
production_of_year d q x r t f y = over_slices_and_modes d (λ l m. activity_in d x r l t m y *ℤ output_activity_ratio d r t f m y)

-- UseByTechnologyAnnual[r,t,f,y]: activity times the input ratio; times 10^18
abbrev pub use_of_year : Data → ℕ → (Var → ℤ) → ℕ → ℕ → ℕ → ℕ → ℤ
use_of_year d q x r t f y = over_slices_and_modes d (λ l m. activity_in d x r l t m y *ℤ input_activity_ratio d r t f m y)

-- TradeAnnual[r,rr,f,y]: the trade of the timeslices
abbrev pub trade_of_year : Data → ℕ → (Var → ℤ) → ℕ → ℕ → ℕ → ℕ → ℤ
trade_of_year d q x r rr f y = sum_over (timeslices d) (λ l. x (trade r rr l f y))

-- AnnualEmissions[r,e,y]: over the technologies, activity times the emission ratio; times 10^18
abbrev pub emissions_of_year : Data → ℕ → (Var → ℤ) → ℕ → ℕ → ℕ → ℤ
emissions_of_year d q x r e y =
    sum_over (technologies d) (λ t. over_slices_and_modes d (λ l m. activity_in d x r l t m y *ℤ emission_activity_ratio d r t e m y))
