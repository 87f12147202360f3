-- Demand of the OSeMOSYS long code: the rate of demand in each timeslice.
use Rattle.std.specs.Prelude.{ℕ, ℤ, pos, ◌*ℤ◌}
use Rattle.model_sets.specs.Data.{Data}
use Rattle.row_core.specs.declared.Var.{Var}
use Rattle.row_core.specs.Statements.{Statement}
use Rattle.named_equations.specs.Notation.{◌equals◌, scale_of}
use Rattle.named_equations.specs.Parameters.{year_split, specified_annual_demand, specified_demand_profile}
use Rattle.named_equations.specs.Variables.{rate_of_demand}

-- EQ_SpecifiedDemand[r,l,f,y]: the timeslice's part of the year times the rate of demand is the annual demand times the timeslice's part of that; times 10^18
abbrev pub eq_specified_demand : Data → ℕ → (Var → ℤ) → ℕ → ℕ → ℕ → ℕ → Statement
eq_specified_demand d q x r l f y =
    scale_of 1 *ℤ year_split d l y *ℤ x (rate_of_demand r l f y)
    equals specified_annual_demand d r f y *ℤ specified_demand_profile d r f l y *ℤ pos q
