-- Where a ratio of a technology isn't 0: what it takes in, puts out or gives off for each unit of its activity.
use Rattle.std.specs.Prelude.{ℕ, ◌<◌, pos, Bool, not, List, [], ◌∷◌, length, map, filter, unwrap_or}
use Rattle.std.specs.List.{flat_map, list_any, range_with_len}
use Rattle.std.specs.Ordering.{int_eq}
use Rattle.model_sets.specs.declared.param_numbers.TheConstants.{INPUT_ACTIVITY_RATIO, OUTPUT_ACTIVITY_RATIO, EMISSION_ACTIVITY_RATIO}
use Rattle.model_sets.specs.Data.{Data, value_at}
use Rattle.model_sets.specs.Members.{SetLists, members}
use Rattle.model_sets.specs.Names.{region, technology, fuel, emission, mode, year}
use Rattle.param_tables.specs.Positions.{names_at}
use Rattle.param_tables.specs.declared.ratios.ActivityRatio.{ActivityRatio}
use Rattle.param_tables.specs.declared.ratios.ActivityRatio.TheVariants.{Input, Output, Emission}
use Rattle.param_tables.specs.declared.ratios.RatioIndex.{RatioIndex}

-- the number of the parameter: InputActivityRatio, OutputActivityRatio or EmissionActivityRatio
abbrev pub ratio_param : ActivityRatio → ℕ
ratio_param Input = INPUT_ACTIVITY_RATIO
ratio_param Output = OUTPUT_ACTIVITY_RATIO
ratio_param Emission = EMISSION_ACTIVITY_RATIO

-- the number of the set of what a technology takes in, puts out or gives off
abbrev pub commodity : ActivityRatio → ℕ
commodity Input = fuel
commodity Output = fuel
commodity Emission = emission

-- how many members set k has
abbrev pub count_in : SetLists → ℕ → ℕ
count_in sets k = length (members sets k)

-- the positions of the members of set k
abbrev pub positions_in : SetLists → ℕ → List ℕ
positions_in sets k = range_with_len 0 (count_in sets k)

-- the position is that of a region
abbrev pub IsRegion : SetLists → ℕ → Type 0
IsRegion sets r = r < count_in sets region

-- the position is that of a technology
abbrev pub IsTechnology : SetLists → ℕ → Type 0
IsTechnology sets t = t < count_in sets technology

-- the positions are those of a region, a fuel or an emission, and a year
pub record AreMembersFor (sets : SetLists) (ratio : ActivityRatio) (r c y : ℕ) : Type 0 where
  pub region : IsRegion sets r
  pub commodity : c < count_in sets (commodity ratio)
  pub year : y < count_in sets year

-- whether the value of the parameter isn't 0 at the index, by the positions of its members; one that is neither given nor a default counts as 0
abbrev pub is_nonzero : Data → ℕ → List ℕ → Bool
is_nonzero d param positions = not (int_eq (unwrap_or (value_at d param (names_at d.sets param positions)) (pos 0)) (pos 0))

-- whether the ratio isn't 0 at the region, technology, fuel or emission, mode and year at these positions
abbrev pub is_ratio_nonzero : Data → ActivityRatio → ℕ → ℕ → ℕ → ℕ → ℕ → Bool
is_ratio_nonzero d ratio r t c m y = is_nonzero d (ratio_param ratio) (r ∷ t ∷ c ∷ m ∷ y ∷ [])

-- the modes in which it isn't
abbrev pub nonzero_modes : Data → ActivityRatio → ℕ → ℕ → ℕ → ℕ → List ℕ
nonzero_modes d ratio r t c y = filter (λ m. is_ratio_nonzero d ratio r t c m y) (positions_in d.sets mode)

-- whether there is such a mode
abbrev pub has_nonzero_mode : Data → ActivityRatio → ℕ → ℕ → ℕ → ℕ → Bool
has_nonzero_mode d ratio r t c y = list_any (λ m. is_ratio_nonzero d ratio r t c m y) (positions_in d.sets mode)

-- the technologies that have one
abbrev pub nonzero_technologies : Data → ActivityRatio → ℕ → ℕ → ℕ → List ℕ
nonzero_technologies d ratio r c y = filter (λ t. has_nonzero_mode d ratio r t c y) (positions_in d.sets technology)

-- for each of these numbers in turn, what f lists
abbrev pub each : List ℕ → (ℕ → List RatioIndex) → List RatioIndex
each numbers f = flat_map f numbers

-- the index of these positions
abbrev pub ratio_index : ℕ → ℕ → ℕ → ℕ → RatioIndex
ratio_index t c m y = record { technology = t; commodity = c; mode = m; year = y }

-- all indices of the ratio in a region, in the order of the members, the last subscript running fastest
abbrev pub ratio_indices : SetLists → ActivityRatio → List RatioIndex
ratio_indices sets ratio =
    each (positions_in sets technology) (λ t.
    each (positions_in sets (commodity ratio)) (λ c.
    each (positions_in sets mode) (λ m.
    map (λ y. ratio_index t c m y) (positions_in sets year))))

-- whether the ratio isn't 0 at the index in the region
abbrev pub is_nonzero_in : Data → ActivityRatio → ℕ → RatioIndex → Bool
is_nonzero_in d ratio r i = is_ratio_nonzero d ratio r i.technology i.commodity i.mode i.year

-- the indices of the region at which it isn't
abbrev pub nonzero_indices : Data → ActivityRatio → ℕ → List RatioIndex
nonzero_indices d ratio r = filter (is_nonzero_in d ratio r) (ratio_indices d.sets ratio)
