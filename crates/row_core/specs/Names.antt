-- The variables and row names of capacity, made from their subscripts. A subscript that a kind or an equation doesn't have is 0.
use Rattle.std.specs.Prelude.{ℕ}
use Rattle.row_core.specs.declared.Index.{Index}
use Rattle.row_core.specs.declared.Var.{Var}
use Rattle.row_core.specs.declared.RowName.{RowName}

-- the subscripts region, technology and year, and no others
abbrev pub at_region_tech_year : ℕ → ℕ → ℕ → Index
at_region_tech_year region tech year =
    record { region = region; other = 0; slice = 0; tech = tech; fuel = 0; emission = 0; mode = 0; year = year }

-- NewCapacity[r,t,y]
abbrev pub new_capacity : ℕ → ℕ → ℕ → Var
new_capacity region tech year = record { kind = 2; index = at_region_tech_year region tech year }

-- AccumulatedNewCapacity[r,t,y]
abbrev pub accumulated_new_capacity : ℕ → ℕ → ℕ → Var
accumulated_new_capacity region tech year = record { kind = 5; index = at_region_tech_year region tech year }

-- TotalCapacityAnnual[r,t,y]
abbrev pub total_capacity_annual : ℕ → ℕ → ℕ → Var
total_capacity_annual region tech year = record { kind = 6; index = at_region_tech_year region tech year }

-- CAa1[r,t,y]
abbrev pub caa1 : ℕ → ℕ → ℕ → RowName
caa1 region tech year = record { eq = 2; index = at_region_tech_year region tech year }

-- CAa2[r,t,y]
abbrev pub caa2 : ℕ → ℕ → ℕ → RowName
caa2 region tech year = record { eq = 3; index = at_region_tech_year region tech year }
