-- The place of an index among all indices over some sets.
use Rattle.std.specs.Prelude.{◌≡◌, ℕ, ◌<◌, Bool, List, [], length, slice_index_or}
use Rattle.std.specs.List.{list_all, zip}
use Rattle.model_sets.specs.Data.{indices_over}
use Rattle.model_sets.specs.Members.{SetLists, members, is_among}

-- whether each name of the index is a member of the set of its subscript; it has as many names as there are subscripts
-- (`AreWellFormed`), so that none is left over
abbrev pub are_members : SetLists → List ℕ → List (List ℕ) → Bool
are_members sets ks index = list_all (λ (k, name). is_among (members sets k) name) (zip ks index)

-- the index stands at this place of the list of all indices over the sets
pub record IsPlaceOf (sets : SetLists) (ks : List ℕ) (index : List (List ℕ)) (place : ℕ) : Type 0 where
  pub below : place < length (indices_over sets ks)
  pub at : slice_index_or (indices_over sets ks) place [] ≡ index
