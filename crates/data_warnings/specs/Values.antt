-- The numbers of the data and the positions of their members, as findings speak of them.
use Rattle.std.specs.Prelude.{ℕ, ◌*◌, ◌<◌, ℤ, pos, Bool, ◌&&◌, not, List, [], length, nat_eq, slice_index_or, unwrap_or, int_lt, if◌then◌else◌}
use Rattle.std.specs.List.{range_with_len}
use Rattle.std.specs.Ordering.{int_eq}
use Rattle.model_sets.specs.Data.{Data, value_at}
use Rattle.model_sets.specs.Members.{SetLists, members, years}
use Rattle.param_tables.specs.Built.{is_given}
use Rattle.param_tables.specs.Positions.{names_at}
use Rattle.data_warnings.specs.declared.places.Place.{Place}
use Rattle.data_warnings.specs.declared.rules.Frame.{Frame}

-- the value of the parameter at the members at these positions, in billionths: the one given, else the default
abbrev pub value : Data → ℕ → List ℕ → ℤ
value d param positions = unwrap_or (value_at d param (names_at d.sets param positions)) (pos 0)

-- the parameter has this value there, and no statement gives it
abbrev pub is_by_default : Data → ℕ → List ℕ → ℤ → Bool
is_by_default d param positions v = not (is_given d param (names_at d.sets param positions)) && int_eq (value d param positions) v

-- the number n in billionths
abbrev pub whole : ℕ → ℤ
whole n = pos (n * 1000000000)

-- the number of no set: a finding without such a member has the position 0 there
abbrev pub no_set : ℕ
no_set = 0

-- how many positions there are in set k, and one in no set
abbrev pub count : Data → ℕ → ℕ
count d k = if nat_eq k no_set then 1 else length (members d.sets k)

-- the positions in set k
abbrev pub positions : Data → ℕ → List ℕ
positions d k = range_with_len 0 (count d k)

-- the name of the member of set k at this position, and nothing in no set
abbrev pub name : SetLists → ℕ → ℕ → List ℕ
name sets k i = if nat_eq k no_set then [] else slice_index_or (members sets k) i []

-- the value is above 0
abbrev pub is_above_zero : ℤ → Bool
is_above_zero v = int_lt (pos 0) v

-- the value isn't 0
abbrev pub is_nonzero : ℤ → Bool
is_nonzero v = not (int_eq v (pos 0))

-- the number of the year at this position
abbrev pub year_number : Data → ℕ → ℕ
year_number d y = slice_index_or (years d.sets) y 0

-- the positions lie in the sets of the frame
pub record IsPlace (d : Data) (over : Frame) (p : Place) : Type 0 where
  pub first : p.first < count d over.first
  pub second : p.second < count d over.second
  pub third : p.third < count d over.third
  pub last : p.last < count d over.last
