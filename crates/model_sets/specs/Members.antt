-- The members of the sets, and when a member is refused.
use Rattle.std.specs.Prelude.{◌≡◌, ℕ, ◌-◌, ◌≤◌, Bool, true, ◌&&◌, not, List, [], ◌∷◌, ◌++◌, length, map, set, replicate, position, nat_eq, nat_le, Option, None, Some, if◌then◌else◌, slice_index_or, All}
use Rattle.std.specs.List.{list_any, find, IsDistinct}
use Rattle.std.specs.Str.{bytes_eq}
use Rattle.model_sets.specs.Names.{IsSet, set_count, year, limit_of, required_sets}
use Rattle.model_sets.specs.Years.{is_year, number_of, least, greatest}

-- the names of the members of every set, from set number 1, each set's in the order of the file
abbrev pub SetLists : Type 0
SetLists = List (List (List ℕ))

-- the sets without members
abbrev pub no_members : SetLists
no_members = replicate set_count []

-- the names of the members of set k, of the numbers of sets alone (`IsSet k`)
abbrev pub members : SetLists → ℕ → List (List ℕ)
members sets k = slice_index_or sets (k - 1) []

-- the sets, with the name as the last member of set k
abbrev pub with_member : SetLists → ℕ → List ℕ → SetLists
with_member sets k name = set sets (k - 1) (members sets k ++ name ∷ [])

-- whether one of the names is this name
abbrev pub is_among : List (List ℕ) → List ℕ → Bool
is_among names name = list_any (bytes_eq name) names

-- the position of the name among the names, or none
abbrev pub index_of : List (List ℕ) → List ℕ → Option ℕ
index_of names name = position (bytes_eq name) names

-- the number of the fault of a name that is there already
abbrev pub twice_in_set : ℕ
twice_in_set = 1

-- the number of the fault of a set without members
abbrev pub empty_set : ℕ
empty_set = 2

-- the number of the fault of a name that is no year
abbrev pub bad_year : ℕ
bad_year = 3

-- the number of the fault of a member past the limit
abbrev pub too_many : ℕ
too_many = 4

-- why the name is refused as a further member of set k, by the first rule that fails: a member of YEAR is a year, no name stands twice in a set, and no set passes its limit
abbrev pub first_refusal : SetLists → ℕ → List ℕ → Option ℕ
first_refusal sets k name =
    if nat_eq k year && not (is_year name) then Some bad_year
    else if is_among (members sets k) name then Some twice_in_set
    else if nat_le (limit_of k) (length (members sets k)) then Some too_many
    else None

-- whether set k has no member
abbrev pub is_without_members : SetLists → ℕ → Bool
is_without_members sets k = nat_eq (length (members sets k)) 0

-- the first of the sets that must have a member and has none
abbrev pub first_empty : SetLists → Option ℕ
first_empty sets = find (is_without_members sets) required_sets

-- the numbers of the years, in the order of the file
abbrev pub years : SetLists → List ℕ
years sets = map number_of (members sets year)

-- the least year
abbrev pub first_year : SetLists → ℕ
first_year sets = least (years sets)

-- the greatest year
abbrev pub last_year : SetLists → ℕ
last_year sets = greatest (years sets)

-- what the names of the members of set k keep: none stands twice, there are no more than the limit, and each member of YEAR is a year
pub record KeepsRules (k : ℕ) (names : List (List ℕ)) : Type 0 where
  pub distinct : IsDistinct bytes_eq names
  pub within : length names ≤ limit_of k
  pub years : k ≡ year → All (λ name. is_year name ≡ true) names

-- the sets as they are kept: eleven, each by its rules
pub record AreSets (sets : SetLists) : Type 0 where
  pub eleven : length sets ≡ set_count
  pub rules : (k : ℕ) → IsSet k → KeepsRules k (members sets k)
