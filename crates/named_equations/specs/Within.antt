-- Positions of members in their sets.
use Rattle.std.specs.Prelude.{ℕ, ◌<◌}
use Rattle.model_sets.specs.Data.{Data}
use Rattle.model_sets.specs.Names.{region, technology, fuel, emission, mode, timeslice, year}
use Rattle.named_equations.specs.Positions.{count_of}

-- a region
abbrev pub IsRegion : Data → ℕ → Type 0
IsRegion d r = r < count_of d region

-- a timeslice
abbrev pub IsSlice : Data → ℕ → Type 0
IsSlice d l = l < count_of d timeslice

-- a technology
abbrev pub IsTechnology : Data → ℕ → Type 0
IsTechnology d t = t < count_of d technology

-- a mode of operation
abbrev pub IsMode : Data → ℕ → Type 0
IsMode d m = m < count_of d mode

-- a year
abbrev pub IsYear : Data → ℕ → Type 0
IsYear d y = y < count_of d year

-- a fuel
abbrev pub IsFuel : Data → ℕ → Type 0
IsFuel d f = f < count_of d fuel

-- an emission
abbrev pub IsEmission : Data → ℕ → Type 0
IsEmission d e = e < count_of d emission
