-- Technologies that charge or discharge a storage. The equations have no storages, so the data don't keep what links the two; the blocks that a text says do.
use Rattle.std.specs.Prelude.{ℕ, Bool, false, ◌&&◌, ◌||◌, List, [], Option, None, Some, filter, length, nat_eq, nat_lt, slice_index_or}
use Rattle.std.specs.List.{list_any, range_with_len}
use Rattle.mathprog_data.specs.Meaning.{Blocks, GivenValue, ParamBlock}
use Rattle.model_sets.specs.declared.param_numbers.TheConstants.{TECHNOLOGY_FROM_STORAGE, TECHNOLOGY_TO_STORAGE}
use Rattle.model_sets.specs.declared.set_numbers.TheConstants.{TECHNOLOGY}
use Rattle.model_sets.specs.Members.{SetLists, index_of, members}
use Rattle.data_warnings.specs.Values.{is_nonzero}

-- a position is this one
abbrev pub is_at : Option ℕ → ℕ → Bool
is_at None t = false
is_at (Some i) t = nat_eq t i

-- where the technology at this position stands by its name
abbrev pub names_at : SetLists → List (List ℕ) → ℕ → Bool
names_at sets index t = nat_lt 1 (length index) && is_at (index_of (members sets TECHNOLOGY) (slice_index_or index 1 [])) t

-- the value isn't 0, and its second name is that of the technology at this position
abbrev pub links : SetLists → ℕ → GivenValue → Bool
links sets t v = is_nonzero v.value && names_at sets v.index t

-- the parameter says which technologies charge storages, or which discharge them
abbrev pub is_of_storages : ℕ → Bool
is_of_storages param = nat_eq param TECHNOLOGY_TO_STORAGE || nat_eq param TECHNOLOGY_FROM_STORAGE

-- one of the values of such a parameter links the technology with a storage
abbrev pub links_in : SetLists → ℕ → ParamBlock → Bool
links_in sets t block = is_of_storages block.param && list_any (links sets t) block.values

-- the technology at this position charges or discharges a storage
abbrev pub uses_storages : SetLists → Blocks → ℕ → Bool
uses_storages sets blocks t = list_any (links_in sets t) blocks.params

-- the positions of those technologies, in the order of the set
abbrev pub storage_users : SetLists → Blocks → List ℕ
storage_users sets blocks = filter (uses_storages sets blocks) (range_with_len 0 (length (members sets TECHNOLOGY)))
