-- Questions on the members of a set, which are asked of whether it is so of some of them.
use Rattle.std.specs.Prelude.{ℕ, ◌+◌, ◌<◌, ℤ, pos, Bool, int_le, ◌&&◌, not, [], ◌∷◌, nat_eq, nat_lt}
use Rattle.std.specs.List.{list_any}
use Rattle.model_sets.specs.Data.{Data}
use Rattle.model_sets.specs.Names.{region, technology, fuel, timeslice, year}
use Rattle.model_sets.specs.declared.param_numbers.TheConstants.{CAPACITY_FACTOR, RESERVE_MARGIN_TAG_FUEL, SPECIFIED_DEMAND_PROFILE, TRADE_ROUTE, YEAR_SPLIT}
use Rattle.data_warnings.specs.declared.questions.Question.{Question}
use Rattle.data_warnings.specs.declared.questions.Question.TheVariants.{Profile, Factor, LargeFactor, WideSlice, Route, Tag, NextYear, LaterYear}
use Rattle.data_warnings.specs.Shares.{is_above_one}
use Rattle.data_warnings.specs.Values.{count, is_above_zero, is_nonzero, positions, value, whole, year_number}

-- the set over which the question goes
abbrev pub over : Question → ℕ
over (Profile r f y) = timeslice
over (Factor r t y) = timeslice
over (LargeFactor r t y) = timeslice
over (WideSlice r t y) = timeslice
over (Route r f y) = region
over (Tag r y) = fuel
over (NextYear y) = year
over (LaterYear y) = year

-- its positions are those of members
abbrev pub IsAsked : Data → Question → Type 0
IsAsked d (Profile r f y) = (r < count d region) × (f < count d fuel) × (y < count d year)
IsAsked d (Factor r t y) = (r < count d region) × (t < count d technology) × (y < count d year)
IsAsked d (LargeFactor r t y) = (r < count d region) × (t < count d technology) × (y < count d year)
IsAsked d (WideSlice r t y) = (r < count d region) × (t < count d technology) × (y < count d year)
IsAsked d (Route r f y) = (r < count d region) × (f < count d fuel) × (y < count d year)
IsAsked d (Tag r y) = (r < count d region) × (y < count d year)
IsAsked d (NextYear y) = y < count d year
IsAsked d (LaterYear y) = y < count d year

-- the value lies between 0 and the most, both included
abbrev pub is_within : ℤ → ℤ → Bool
is_within most v = int_le (pos 0) v && int_le v most

-- it is so of the member at this position
abbrev pub is_so : Data → Question → ℕ → Bool
is_so d (Profile r f y) l = is_above_zero (value d SPECIFIED_DEMAND_PROFILE (r ∷ f ∷ l ∷ y ∷ []))
is_so d (Factor r t y) l = is_nonzero (value d CAPACITY_FACTOR (r ∷ t ∷ l ∷ y ∷ []))
is_so d (LargeFactor r t y) l = is_above_one (value d CAPACITY_FACTOR (r ∷ t ∷ l ∷ y ∷ []))
is_so d (WideSlice r t y) l = not (is_within (whole 10) (value d CAPACITY_FACTOR (r ∷ t ∷ l ∷ y ∷ [])) && is_within (whole 10) (value d YEAR_SPLIT (l ∷ y ∷ [])))
is_so d (Route r f y) rr = not (nat_eq rr r) && is_nonzero (value d TRADE_ROUTE (r ∷ rr ∷ f ∷ y ∷ []))
is_so d (Tag r y) f = is_nonzero (value d RESERVE_MARGIN_TAG_FUEL (r ∷ f ∷ y ∷ []))
is_so d (NextYear y) i = nat_eq (year_number d i) (year_number d y + 1)
is_so d (LaterYear y) i = nat_lt (year_number d y) (year_number d i)

-- it is so of some member
abbrev pub is_so_somewhere : Data → Question → Bool
is_so_somewhere d question = list_any (is_so d question) (positions d (over question))
