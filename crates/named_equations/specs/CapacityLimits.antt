-- Limits on total capacity and on new capacity of the OSeMOSYS long code. A greatest capacity of -1 is no limit, and a least capacity of 0 asks for nothing.
use Rattle.std.specs.Prelude.{ℕ, ℤ, pos, ◌*ℤ◌, Bool}
use Rattle.model_sets.specs.Data.{Data}
use Rattle.row_core.specs.declared.Var.{Var}
use Rattle.row_core.specs.Statements.{Statement}
use Rattle.named_equations.specs.Notation.{◌at_most◌, ◌at_least◌, scale_of}
use Rattle.named_equations.specs.Parameters.{total_annual_max_capacity, total_annual_min_capacity, total_annual_max_capacity_investment, total_annual_min_capacity_investment}
use Rattle.named_equations.specs.Variables.{new_capacity, total_capacity_annual}
use Rattle.named_equations.specs.Where.{is_limit, is_positive}

-- where a greatest capacity is set
abbrev pub has_tcc1 : Data → ℕ → ℕ → ℕ → Bool
has_tcc1 d r t y = is_limit (total_annual_max_capacity d r t y)

-- TCC1_TotalAnnualMaxCapacityConstraint[r,t,y]: the total capacity is at most its limit; times 10^9
abbrev pub tcc1 : Data → ℕ → (Var → ℤ) → ℕ → ℕ → ℕ → Statement
tcc1 d q x r t y = scale_of 1 *ℤ x (total_capacity_annual r t y) at_most total_annual_max_capacity d r t y *ℤ pos q

-- where a least capacity is set
abbrev pub has_tcc2 : Data → ℕ → ℕ → ℕ → Bool
has_tcc2 d r t y = is_positive (total_annual_min_capacity d r t y)

-- TCC2_TotalAnnualMinCapacityConstraint[r,t,y]: the total capacity is at least its limit; times 10^9
abbrev pub tcc2 : Data → ℕ → (Var → ℤ) → ℕ → ℕ → ℕ → Statement
tcc2 d q x r t y = scale_of 1 *ℤ x (total_capacity_annual r t y) at_least total_annual_min_capacity d r t y *ℤ pos q

-- where a greatest new capacity is set
abbrev pub has_ncc1 : Data → ℕ → ℕ → ℕ → Bool
has_ncc1 d r t y = is_limit (total_annual_max_capacity_investment d r t y)

-- NCC1_TotalAnnualMaxNewCapacityConstraint[r,t,y]: the new capacity is at most its limit; times 10^9
abbrev pub ncc1 : Data → ℕ → (Var → ℤ) → ℕ → ℕ → ℕ → Statement
ncc1 d q x r t y = scale_of 1 *ℤ x (new_capacity r t y) at_most total_annual_max_capacity_investment d r t y *ℤ pos q

-- where a least new capacity is set
abbrev pub has_ncc2 : Data → ℕ → ℕ → ℕ → Bool
has_ncc2 d r t y = is_positive (total_annual_min_capacity_investment d r t y)

-- NCC2_TotalAnnualMinNewCapacityConstraint[r,t,y]: the new capacity is at least its limit; times 10^9
abbrev pub ncc2 : Data → ℕ → (Var → ℤ) → ℕ → ℕ → ℕ → Statement
ncc2 d q x r t y = scale_of 1 *ℤ x (new_capacity r t y) at_least total_annual_min_capacity_investment d r t y *ℤ pos q
