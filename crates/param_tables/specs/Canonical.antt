-- Data in canonical form: what they give in one order, without what nothing asks for. So data that say the same are equal.
use Rattle.std.specs.Prelude.{ℕ, ℤ, List, ◌∷◌}
use Rattle.std.specs.List.{filter_map, flat_map}
use Rattle.std.specs.Option.{option_map}
use Rattle.model_sets.specs.Data.{Data, Default, Given, default_of, given_at, indices_of, used_params}

-- the value of the parameter at the index
abbrev pub given_value : ℕ → List (List ℕ) → ℤ → Given
given_value param index value = record { param = param; index = index; value = value }

-- the values that the data give for the parameter, in the order of its indices
abbrev pub values_for : Data → ℕ → List Given
values_for d param = filter_map (λ index. option_map (given_value param index) (given_at d param index)) (indices_of d.sets param)

-- the values given for the used parameters, in their order
unfoldable pub given_in_order : Data → List Given
given_in_order d = flat_map (values_for d) (used_params d)

-- the defaults given for the used parameters, in their order
unfoldable pub defaults_in_order : Data → List Default
defaults_in_order d = filter_map (λ param. option_map (λ value. record { param = param; value = value }) (default_of d param)) (used_params d)

-- the data in canonical form: the values and defaults of the used parameters at their indices alone, each once, in order
abbrev pub canonical : Data → Data
canonical d = record { sets = d.sets; given = given_in_order d; defaults = defaults_in_order d; second = d.second }

-- the data with this value given for the parameter at the index, in place of what they give there
abbrev pub with_given : Data → ℕ → List (List ℕ) → ℤ → Data
with_given d param index value = record { sets = d.sets; given = given_value param index value ∷ d.given; defaults = d.defaults; second = d.second }

-- the same in canonical form
abbrev pub with_value_at : Data → ℕ → List (List ℕ) → ℤ → Data
with_value_at d param index value = canonical (with_given d param index value)
