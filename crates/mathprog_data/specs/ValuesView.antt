-- What the values in memory say: the names of their indices stand in one list, to which the values point.
use Rattle.std.specs.Prelude.{ℕ, ◌≤◌, ◌<◌, ◌≡◌, List, [], ◌∷◌, length, map, take, slice_index_or}
use Rattle.mathprog_data.specs.declared.name_places.KeptValue.{KeptValue}
use Rattle.mathprog_data.specs.declared.name_places.NamePlaces.{NamePlaces}
use Rattle.mathprog_data.specs.Meaning.{GivenValue}
use Rattle.mathprog_data.specs.Symbols.{Name}

-- the name at a place
abbrev pub name_at : List Name → ℕ → Name
name_at names place = slice_index_or names place []

-- the names at these places
abbrev pub names_at : List Name → List ℕ → List Name
names_at names places = map (name_at names) places

-- the places lie below the end
pub data AreWithin (end : ℕ) : List ℕ → Type 0 where
  none : AreWithin end []
  more : {place : ℕ} {places : List ℕ} → place < end → AreWithin end places → AreWithin end (place ∷ places)

-- the names that were there still are, in their places
pub record Grown (old new : List Name) : Type 0 where
  pub longer : length old ≤ length new
  pub same : (place : ℕ) → place < length old → name_at new place ≡ name_at old place

-- the places are those of these names
pub record PointTo (names : List Name) (places : List ℕ) (index : List Name) : Type 0 where
  pub within : AreWithin (length names) places
  pub named : names_at names places ≡ index

-- the places of an index
abbrev pub places_in : NamePlaces → List ℕ
places_in p = take p.count p.places

-- what a kept value says
abbrev pub kept_told : List Name → KeptValue → GivenValue
kept_told names kept = record { index = names_at names (places_in kept.index); value = kept.value; at = kept.at }

-- what kept values say
abbrev pub all_told : List Name → List KeptValue → List GivenValue
all_told names kept = map (kept_told names) kept

-- the values point to places below the end
pub data AreKept (end : ℕ) : List KeptValue → Type 0 where
  none : AreKept end []
  more : {value : KeptValue} {values : List KeptValue} → AreWithin end (places_in value.index) → AreKept end values → AreKept end (value ∷ values)
