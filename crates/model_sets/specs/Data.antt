-- What the data are: the sets as lists of names, and a value for each parameter and index, by a look-up in the list of the values given.
use Rattle.std.specs.Prelude.{◌≡◌, ℕ, ℤ, pos, Bool, true, ◌&&◌, List, [], ◌∷◌, map, filter, nat_eq, Option, None, Some, Contains, if◌then◌else◌}
use Rattle.std.specs.Cmp.Lexicographic.{pointwise}
use Rattle.std.specs.List.{find, flat_map, range_with_len}
use Rattle.std.specs.Option.{option_map, option_or}
use Rattle.std.specs.Str.{bytes_eq}
use Rattle.model_sets.specs.declared.param_numbers.TheConstants.{CAPACITY_OF_ONE_TECHNOLOGY_UNIT}
use Rattle.model_sets.specs.Members.{SetLists, members}
use Rattle.model_sets.specs.Params.{IsParam, is_used, param_at, param_count, subscript_sets}

-- a value that was given: the parameter's number, the names of the index in the order of its subscripts, and the value in billionths
pub record Given : Type 0 where
  pub param : ℕ
  pub index : List (List ℕ)
  pub value : ℤ

-- a default that was given: the parameter's number, and the value in billionths
pub record Default : Type 0 where
  pub param : ℕ
  pub value : ℤ

-- the data: the names of the members of every set, the values given, the defaults given, and whether the text has a statement for DiscountRateIdv, so that investments are spread by capital recovery
pub record Data : Type 0 where
  pub sets : SetLists
  pub given : List Given
  pub defaults : List Default
  pub second : Bool

-- n is the number of a parameter that is used in the data: DiscountRateIdv only where the text has a statement for it
abbrev pub IsUsedParam : Data → ℕ → Type 0
IsUsedParam d n = IsParam n × (is_used d.second (param_at n).used ≡ true)

-- the numbers of the parameters that are used in the data, in their order
abbrev pub used_params : Data → List ℕ
used_params d = filter (λ n. is_used d.second (param_at n).used) (range_with_len 1 param_count)

-- whether the value was given for this parameter at this index
abbrev pub is_given_at : ℕ → List (List ℕ) → Given → Bool
is_given_at param index given = nat_eq given.param param && pointwise bytes_eq given.index index

-- the value given for the parameter at the index
abbrev pub given_at : Data → ℕ → List (List ℕ) → Option ℤ
given_at d param index = option_map (λ given. given.value) (find (is_given_at param index) d.given)

-- the default given for the parameter
abbrev pub default_of : Data → ℕ → Option ℤ
default_of d param = option_map (λ default. default.value) (find (λ default. nat_eq default.param param) d.defaults)

-- the number of CapacityOfOneTechnologyUnit
abbrev pub unit_capacity : ℕ
unit_capacity = CAPACITY_OF_ONE_TECHNOLOGY_UNIT

-- the value that a used parameter has where neither a value nor a default is given: 0 for CapacityOfOneTechnologyUnit, and none for the others
abbrev pub value_of_none : ℕ → Option ℤ
value_of_none param = if nat_eq param unit_capacity then Some (pos 0) else None

-- the value of the used parameter at one of its indices (`indices_of`), in billionths: the value given, else the default
abbrev pub value_at : Data → ℕ → List (List ℕ) → Option ℤ
value_at d param index = option_or (given_at d param index) (option_or (default_of d param) (value_of_none param))

-- all indices over these sets, in the order of the members, the last subscript running fastest
abbrev pub indices_over : SetLists → List ℕ → List (List (List ℕ))
indices_over sets [] = [] ∷ []
indices_over sets (k ∷ ks) = flat_map (λ name. map (λ rest. name ∷ rest) (indices_over sets ks)) (members sets k)

-- all indices of the used parameter
abbrev pub indices_of : SetLists → ℕ → List (List (List ℕ))
indices_of sets param = indices_over sets (subscript_sets param)

-- the same sets, the same parameters used, and the same value of each used parameter at each of its indices
pub record AreSameData (d e : Data) : Type 0 where
  pub sets : d.sets ≡ e.sets
  pub second : d.second ≡ e.second
  pub values : (param : ℕ) → IsUsedParam d param → (index : List (List ℕ)) → Contains (indices_of d.sets param) index → value_at d param index ≡ value_at e param index
