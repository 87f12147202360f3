-- Where the values of a ratio that aren't 0 are kept. Private functions alone cite these definitions.
use Rattle.std.specs.Prelude.{◌≡◌, ◌↔◌, ℕ, ◌+◌, ◌-◌, ◌*◌, ◌/◌, ◌%◌, ◌<◌, ◌≤◌, ℤ, pos, Bool, true, not, List, Option, map, filter, unwrap_or, slice_index_or, Contains}
use Rattle.std.specs.List.Sorted.{IsStrictlyIncreasing}
use Rattle.std.specs.Ordering.{int_eq}
use Rattle.model_sets.specs.Members.{SetLists}
use Rattle.model_sets.specs.Names.{technology, mode, year}
use Rattle.param_tables.specs.Ratios.{commodity, count_in, ratio_param}
use Rattle.param_tables.specs.Tables.{entries_of, given_in}
use Rattle.param_tables.specs.View.{AreKept}
use Rattle.param_tables.specs.declared.param_table.ParamTable.{ParamTable}
use Rattle.param_tables.specs.declared.ratio_places.RatioPlaces.{RatioPlaces}
use Rattle.param_tables.specs.declared.ratio_places.AllRatioPlaces.{AllRatioPlaces}
use Rattle.param_tables.specs.declared.ratio_sizes.RatioSizes.{RatioSizes}
use Rattle.param_tables.specs.declared.ratios.ActivityRatio.{ActivityRatio}
use Rattle.param_tables.specs.declared.ratios.ActivityRatio.TheVariants.{Input, Output, Emission}
use Rattle.param_tables.specs.declared.ratios.RatioIndex.{RatioIndex}

-- ---- places of indices

-- how many members the sets of the ratio's index have, that of REGION aside
abbrev pub ratio_sizes : SetLists → ActivityRatio → RatioSizes
ratio_sizes sets ratio = record {
  technologies = count_in sets technology;
  commodities = count_in sets (commodity ratio);
  modes = count_in sets mode;
  years = count_in sets year;
}

-- no set has more members than any may have
pub record AreSmall (s : RatioSizes) : Type 0 where
  pub technologies : s.technologies ≤ 1000
  pub commodities : s.commodities ≤ 1000
  pub modes : s.modes ≤ 1000
  pub years : s.years ≤ 1000

-- how many indices there are for one technology and commodity
abbrev pub commodity_size : RatioSizes → ℕ
commodity_size s = s.modes * s.years

-- how many there are for one technology
abbrev pub technology_size : RatioSizes → ℕ
technology_size s = s.commodities * commodity_size s

-- how many there are for one region
abbrev pub region_size : RatioSizes → ℕ
region_size s = s.technologies * technology_size s

-- the place of an index among those of its region
abbrev pub offset_of : RatioSizes → ℕ → ℕ → ℕ → ℕ → ℕ
offset_of s t c m y = t * technology_size s + (c * commodity_size s + (m * s.years + y))

-- the place of an index among all
abbrev pub ratio_place : RatioSizes → ℕ → ℕ → ℕ → ℕ → ℕ → ℕ
ratio_place s r t c m y = r * region_size s + offset_of s t c m y

-- the index at the place among those of its region
abbrev pub index_at_offset : RatioSizes → ℕ → RatioIndex
index_at_offset s offset =
    let in_technology = offset % technology_size s in
    let in_commodity = in_technology % commodity_size s in record {
      technology = offset / technology_size s;
      commodity = in_technology / commodity_size s;
      mode = in_commodity / s.years;
      year = in_commodity % s.years;
    }

-- the positions are those of members
pub record IsWithin (s : RatioSizes) (t c m y : ℕ) : Type 0 where
  pub technology : t < s.technologies
  pub commodity : c < s.commodities
  pub mode : m < s.modes
  pub year : y < s.years

-- how many indices there are for one region, commodity and year
abbrev pub group_size : RatioSizes → ℕ
group_size s = s.technologies * s.modes

-- the number of the group of a region, commodity and year
abbrev pub group_of : RatioSizes → ℕ → ℕ → ℕ → ℕ
group_of s r c y = (r * s.commodities + c) * s.years + y

-- the place of an index in the order of region, commodity, year, technology and mode
abbrev pub grouped_place : RatioSizes → ℕ → ℕ → ℕ → ℕ → ℕ → ℕ
grouped_place s r t c m y = group_of s r c y * group_size s + (t * s.modes + m)

-- the grouped place of the index at a place
abbrev pub regrouped : RatioSizes → ℕ → ℕ
regrouped s place = let i = index_at_offset s (place % region_size s) in grouped_place s (place / region_size s) i.technology i.commodity i.mode i.year

-- ---- values that aren't 0

-- whether the value isn't 0, where there is one
abbrev pub is_nonzero_value : Option ℤ → Bool
is_nonzero_value value = not (int_eq (unwrap_or value (pos 0)) (pos 0))

-- whether a value is given at the place that isn't 0
abbrev pub is_given_nonzero : List (ℕ × ℤ) → ℕ → Bool
is_given_nonzero entries place = is_nonzero_value (given_in entries place)

-- ---- what is kept

-- the grouped places of the indices at these places, ascending
pub record AreGrouped (s : RatioSizes) (places grouped : List ℕ) : Type 0 where
  pub rising : IsStrictlyIncreasing grouped
  pub inside : (q : ℕ) → Contains grouped q → Contains (map (regrouped s) places) q
  pub all : (q : ℕ) → Contains (map (regrouped s) places) q → Contains grouped q

-- the places at which a value is given that isn't 0, in the order of the index, and grouped
pub record ArePlacesOf (s : RatioSizes) (table : ParamTable) (places : RatioPlaces) : Type 0 where
  pub in_order : places.in_order.items ≡ filter (is_given_nonzero (entries_of table)) table.places.items
  pub rising : IsStrictlyIncreasing places.grouped.items
  pub grouped : (r t c m y : ℕ) → IsWithin s t c m y → Contains places.grouped.items (grouped_place s r t c m y) ↔ (is_given_nonzero (entries_of table) (ratio_place s r t c m y) ≡ true)

-- those of one ratio
abbrev pub places_of : AllRatioPlaces → ActivityRatio → RatioPlaces
places_of all Input = all.input
places_of all Output = all.output
places_of all Emission = all.emission

-- those of the three ratios
abbrev pub AreAllPlaces : SetLists → List ParamTable → AllRatioPlaces → Type 0
AreAllPlaces sets tables all = (ratio : ActivityRatio) (e : ParamTable) → ArePlacesOf (ratio_sizes sets ratio) (slice_index_or tables (ratio_param ratio - 1) e) (places_of all ratio)

-- the tables mean complete data, and the places are theirs
pub record AreKeptWith (sets : SetLists) (tables : List ParamTable) (second : Bool) (all : AllRatioPlaces) : Type 0 where
  pub kept : AreKept sets tables second
  pub places : AreAllPlaces sets tables all

-- ---- what is found

-- the part of the places from `start` on, and before `end`
pub record IsPartBetween (places : List ℕ) (start end : ℕ) (part : List ℕ) : Type 0 where
  pub rising : IsStrictlyIncreasing part
  pub inside : (place : ℕ) → Contains part place → Contains places place × (start ≤ place) × (place < end)
  pub all : (place : ℕ) → Contains places place → start ≤ place → place < end → Contains part place

-- the blocks of `width` places, counted from `start`, that hold one of the places; the first `count` blocks are looked at
pub record AreBlocks (places : List ℕ) (start width count : ℕ) (blocks : List ℕ) : Type 0 where
  pub rising : IsStrictlyIncreasing blocks
  pub inside : (block : ℕ) → Contains blocks block → (block < count) × ((i : ℕ) × (i < width) × Contains places (start + (block * width + i)))
  pub all : (block i : ℕ) → block < count → i < width → Contains places (start + (block * width + i)) → Contains blocks block

-- the indices at the places of the region that starts at `start`
pub record AreIndicesAt (s : RatioSizes) (places : List ℕ) (start : ℕ) (indices : List RatioIndex) : Type 0 where
  pub part : List ℕ
  pub between : IsPartBetween places start (start + region_size s) part
  pub listed : indices ≡ map (λ place. index_at_offset s (place - start)) part
