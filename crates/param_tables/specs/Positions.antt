-- Indices by the positions of their members, which count from 0.
use Rattle.std.specs.Prelude.{ℕ, ◌<◌, List, [], length, map, slice_index_or}
use Rattle.std.specs.List.{AllZip, zip}
use Rattle.model_sets.specs.Members.{SetLists, members}
use Rattle.model_sets.specs.Params.{subscript_sets}

-- the positions are those of members, one of each of these sets
abbrev pub ArePositions : SetLists → List ℕ → List ℕ → Type 0
ArePositions sets ks positions = AllZip (λ k i. i < length (members sets k)) ks positions

-- the names of the members at the positions, one of each of these sets; there are as many positions as sets, and each is
-- a member's (`ArePositions`)
abbrev pub names_over : SetLists → List ℕ → List ℕ → List (List ℕ)
names_over sets ks positions = map (λ (k, i). slice_index_or (members sets k) i []) (zip ks positions)

-- the positions are an index of the used parameter: one for each subscript, of a member of its set
abbrev pub IsIndexOf : SetLists → ℕ → List ℕ → Type 0
IsIndexOf sets param positions = ArePositions sets (subscript_sets param) positions

-- the index by the names of its members
abbrev pub names_at : SetLists → ℕ → List ℕ → List (List ℕ)
names_at sets param positions = names_over sets (subscript_sets param) positions
