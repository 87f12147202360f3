-- The data that statements give: the sets, the values given, and the defaults.
use Rattle.std.specs.Prelude.{ℕ, Bool, List, [], map, nat_eq, Option}
use Rattle.std.specs.List.{find, flat_map, filter_map, list_any, range_with_len}
use Rattle.std.specs.Option.{option_map, option_map_or}
use Rattle.model_sets.specs.declared.param_numbers.TheConstants.{DISCOUNT_RATE_IDV}
use Rattle.model_sets.specs.Data.{Given, Default, Data}
use Rattle.model_sets.specs.Members.{SetLists}
use Rattle.model_sets.specs.Names.{set_count}
use Rattle.mathprog_data.specs.Meaning.{GivenValue, SetBlock, ParamBlock, Blocks}

-- the names of the members of set k, in the order of the text; a set without a statement has none
abbrev pub members_told : List SetBlock → ℕ → List (List ℕ)
members_told statements k = option_map_or (λ s. s.members) (find (λ s. nat_eq s.set k) statements) []

-- the names of the members of every set, from set number 1
abbrev pub set_lists : Blocks → SetLists
set_lists statements = map (members_told statements.sets) (range_with_len 1 set_count)

-- the value as one of the data
abbrev pub given_of : ℕ → GivenValue → Given
given_of param value = record { param = param; index = value.index; value = value.value }

-- the default as one of the data, where the statement has one
abbrev pub stated_default : ParamBlock → Option Default
stated_default statement = option_map (λ value. record { param = statement.param; value = value }) statement.default

-- the values that a statement gives
abbrev pub givens_of : ParamBlock → List Given
givens_of statement = map (given_of statement.param) statement.values

-- whether one of the statements is on DiscountRateIdv, if only one without values
abbrev pub has_second : List ParamBlock → Bool
has_second params = list_any (λ s. nat_eq s.param DISCOUNT_RATE_IDV) params

-- the data of these sets and these statements on parameters
abbrev pub data_of : SetLists → List ParamBlock → Data
data_of sets params = record { sets = sets; given = flat_map givens_of params; defaults = filter_map stated_default params; second = has_second params }

-- the data that the statements give
abbrev pub data_told : Blocks → Data
data_told statements = data_of (set_lists statements) statements.params
