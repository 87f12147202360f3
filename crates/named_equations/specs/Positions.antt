-- The members of the sets as positions, from 0 in the order of the file, and the years as numbers.
use Rattle.std.specs.Prelude.{ℕ, ◌+◌, ◌-◌, List, length, slice_index_or}
use Rattle.std.specs.List.{range_with_len}
use Rattle.model_sets.specs.Data.{Data}
use Rattle.model_sets.specs.Members.{members, years, first_year, last_year}
use Rattle.model_sets.specs.Names.{region, technology, fuel, emission, mode, timeslice, year}

-- how many members set k has
abbrev pub count_of : Data → ℕ → ℕ
count_of d k = length (members d.sets k)

-- the positions of the members of set k
abbrev pub positions : Data → ℕ → List ℕ
positions d k = range_with_len 0 (count_of d k)

-- REGION
abbrev pub regions : Data → List ℕ
regions d = positions d region

-- TECHNOLOGY
abbrev pub technologies : Data → List ℕ
technologies d = positions d technology

-- FUEL
abbrev pub fuels : Data → List ℕ
fuels d = positions d fuel

-- EMISSION
abbrev pub emissions : Data → List ℕ
emissions d = positions d emission

-- MODE_OF_OPERATION
abbrev pub modes : Data → List ℕ
modes d = positions d mode

-- TIMESLICE
abbrev pub timeslices : Data → List ℕ
timeslices d = positions d timeslice

-- YEAR
abbrev pub all_years : Data → List ℕ
all_years d = positions d year

-- the number of the year at position y, as 2020
abbrev pub number_of_year : Data → ℕ → ℕ
number_of_year d y = slice_index_or (years d.sets) y 0

-- y - first: the years from the first year to this one
abbrev pub years_since_first : Data → ℕ → ℕ
years_since_first d y = number_of_year d y - first_year d.sets

-- last - y + 1: the years from this one to the last, both included
abbrev pub years_left : Data → ℕ → ℕ
years_left d y = last_year d.sets - number_of_year d y + 1

-- 1 + last - first: the years of the model period, gaps included
abbrev pub years_in_all : Data → ℕ
years_in_all d = last_year d.sets - first_year d.sets + 1
