-- Data in canonical form, computed on worked examples and near misses.
use Rattle.param_tables.proofs.Common.{◌≡◌, ◌∷◌, [], ℕ, List, false, Some, refl, ap, pos, negsuc, codes, ℤ, Data, Default, Given, given_at, CONVERSIONLS, DISCOUNT_RATE_IDV, MODEL_PERIOD_EMISSION_LIMIT, TRADE_ROUTE, canonical, defaults_in_order, given_in_order, given_value, with_value_at}

-- ---- one region with two emissions: the limits on these, and nothing else

abbrev limit : ℕ
limit = MODEL_PERIOD_EMISSION_LIMIT

abbrev co2 : List (List ℕ)
co2 = codes "R" ∷ codes "CO2" ∷ []

abbrev nox : List (List ℕ)
nox = codes "R" ∷ codes "NOX" ∷ []

abbrev some_data : List Given → List Default → Data
some_data given defaults = record {
  sets = (codes "R" ∷ []) ∷ [] ∷ [] ∷ (codes "CO2" ∷ codes "NOX" ∷ []) ∷ [] ∷ [] ∷ [] ∷ [] ∷ [] ∷ [] ∷ [] ∷ [];
  given = given;
  defaults = defaults;
  second = false;
}

abbrev default_for : ℕ → ℤ → Default
default_for param value = record { param = param; value = value }

abbrev of_co2 : Given
of_co2 = given_value limit co2 (pos 7)

abbrev of_nox : Given
of_nox = given_value limit nox (pos 4)

abbrev in_order : Data
in_order = some_data (of_co2 ∷ of_nox ∷ []) []

-- what stands in order stays
stays : canonical in_order ≡ in_order
unfolding given_in_order defaults_in_order
stays = refl

-- values in another order come in that of the members, so that the two are equal
is_ordered : canonical (some_data (of_nox ∷ of_co2 ∷ []) []) ≡ in_order
unfolding given_in_order defaults_in_order
is_ordered = refl

-- of two values at one index the first counts, as for the look-up
first_counts : canonical (some_data (of_co2 ∷ given_value limit co2 (pos 9) ∷ of_nox ∷ []) []) ≡ in_order
unfolding given_in_order defaults_in_order
first_counts = refl

-- values at an index that is none go, and values of a parameter that isn't used, also where it is one of others
no_index : canonical (some_data (given_value limit (codes "R" ∷ codes "SO2" ∷ []) (pos 1) ∷ of_co2 ∷ of_nox ∷ []) []) ≡ in_order
unfolding given_in_order defaults_in_order
no_index = refl

not_used : canonical (some_data (of_co2 ∷ given_value DISCOUNT_RATE_IDV (codes "R" ∷ []) (pos 1) ∷ of_nox ∷ []) (default_for CONVERSIONLS (pos 1) ∷ [])) ≡ in_order
unfolding given_in_order defaults_in_order
not_used = refl

-- defaults come in the order of the parameters, each once
defaults_ordered : canonical (some_data [] (default_for limit (negsuc 0) ∷ default_for TRADE_ROUTE (pos 0) ∷ default_for limit (pos 3) ∷ [])) ≡ some_data [] (default_for TRADE_ROUTE (pos 0) ∷ default_for limit (negsuc 0) ∷ [])
unfolding given_in_order defaults_in_order
defaults_ordered = refl

-- another value comes in the place of the one that was given
replaced : with_value_at in_order limit nox (pos 5) ≡ some_data (of_co2 ∷ given_value limit nox (pos 5) ∷ []) []
unfolding given_in_order defaults_in_order
replaced = refl

-- ---- near misses

-- a value that is given isn't one that comes from the default, though both are 7
by_default : canonical (some_data [] (default_for limit (pos 7) ∷ [])) ≡ canonical (some_data (of_co2 ∷ of_nox ∷ []) (default_for limit (pos 7) ∷ [])) → ⊥
unfolding given_in_order defaults_in_order
by_default same = cc

-- nor are data equal where one value differs
one_differs : canonical in_order ≡ canonical (some_data (of_co2 ∷ given_value limit nox (pos 5) ∷ []) []) → ⊥
unfolding given_in_order defaults_in_order
one_differs same =
    let values : Some (pos 4) ≡ Some (pos 5) = ap (λ (d : Data). given_at d limit nox) same in
    cc values
