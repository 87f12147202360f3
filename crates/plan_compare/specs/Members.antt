-- Members that only one of two files has, by their names.
use Rattle.std.specs.Prelude.{ℕ, Bool, is_none, List, [], ◌∷◌, map, filter}
use Rattle.std.specs.List.{flat_map}
use Rattle.model_sets.specs.Members.{SetLists, index_of, members}
use Rattle.model_sets.specs.Names.{set_word, region, technology, fuel, emission, mode, timeslice, year}
use Rattle.plan_files.specs.Files.{Fields}

-- the sets over which subscripts run
abbrev pub compared_sets : List ℕ
compared_sets = region ∷ technology ∷ fuel ∷ emission ∷ mode ∷ timeslice ∷ year ∷ []

-- a set there has no member of this name
abbrev pub is_missing : SetLists → ℕ → List ℕ → Bool
is_missing there set name = is_none (index_of (members there set) name)

-- the records of those names that it doesn't have, in their order: the word of the set, and the name
abbrev pub missing_records : SetLists → ℕ → List (List ℕ) → List Fields
missing_records there set names = map (λ name. set_word set ∷ name ∷ []) (filter (is_missing there set) names)

-- those of the members here
abbrev pub member_records : SetLists → SetLists → ℕ → List Fields
member_records here there set = missing_records there set (members here set)

-- of all sets
abbrev pub only_here : SetLists → SetLists → List Fields
only_here here there = flat_map (member_records here there) compared_sets
