-- Data with another value at one index, on a worked example and on near misses.
use Rattle.param_tables.proofs.Common.{◌≡◌, ◌∷◌, [], ℕ, List, Bool, true, false, Some, None, Option, refl, sym, ap, pos, negsuc, arith, true≢false, codes, ℤ, pointwise, int_eq, bytes_eq, Data, Given, IsUsedParam, indices_of, value_at, MODEL_PERIOD_EMISSION_LIMIT, defaults_in_order, given_in_order, with_value_at, AreDataWith}
use Rattle.param_tables.proofs.ChangeLaws.{data_with}
use Rattle.param_tables.proofs.GivenLaws.{names_same}

-- ---- two emissions of one region: NOX has a limit of 4, and the other has the default, which is none

abbrev limit : ℕ
limit = MODEL_PERIOD_EMISSION_LIMIT

abbrev co2 : List (List ℕ)
co2 = codes "R" ∷ codes "CO2" ∷ []

abbrev nox : List (List ℕ)
nox = codes "R" ∷ codes "NOX" ∷ []

abbrev with_values : List Given → ℤ → Data
with_values given default = record {
  sets = (codes "R" ∷ []) ∷ [] ∷ [] ∷ (codes "CO2" ∷ codes "NOX" ∷ []) ∷ [] ∷ [] ∷ [] ∷ [] ∷ [] ∷ [] ∷ [] ∷ [];
  given = given;
  defaults = record { param = limit; value = default } ∷ [];
  second = false;
}

abbrev of_nox : Given
of_nox = record { param = limit; index = nox; value = pos 4000000000 }

abbrev two_emissions : Data
two_emissions = with_values (of_nox ∷ []) (negsuc 999999999)

abbrev seven : ℤ
seven = pos 7000000000

its_indices : indices_of two_emissions.sets limit ≡ co2 ∷ nox ∷ []
its_indices = refl

limit_is_used : IsUsedParam two_emissions limit
limit_is_used = ((omega arith, omega arith), refl)

-- 7 for CO2: the limit of NOX stays
seven_for_co2 : value_at (with_value_at two_emissions limit co2 seven) limit co2 ≡ Some (pos 7000000000)
unfolding given_in_order defaults_in_order
seven_for_co2 = refl

nox_as_before : value_at (with_value_at two_emissions limit co2 seven) limit nox ≡ Some (pos 4000000000)
unfolding given_in_order defaults_in_order
nox_as_before = refl

-- 7 for NOX comes in the place of 4
seven_for_nox : AreDataWith limit nox seven two_emissions (with_value_at two_emissions limit nox seven)
seven_for_nox = data_with two_emissions limit nox seven limit_is_used (1, omega arith, refl)

is_seven : Option ℤ → Bool
is_seven None = false
is_seven (Some v) = int_eq v seven

-- a value given after another at the same index says nothing
not_after_another : AreDataWith limit nox seven two_emissions (with_values (of_nox ∷ record { param = limit; index = nox; value = seven } ∷ []) (negsuc 999999999)) → ⊥
unfolding is_seven
not_after_another is =
    let no : Some (pos 4000000000) ≡ Some seven = is.here in
    true≢false (sym (ap is_seven no))

-- another value for both isn't another value at one index
not_for_both : AreDataWith limit nox seven two_emissions (with_values [] seven) → ⊥
unfolding is_seven
not_for_both is =
    let no : Some seven ≡ Some (negsuc 999999999) = is.elsewhere limit limit_is_used co2 (0, omega arith, refl) (λ same same_names. names_differ same_names) in
    true≢false (ap is_seven no)
  where
    names_differ : co2 ≡ nox → ⊥
    names_differ e = let test : pointwise bytes_eq co2 nox ≡ true = (names_same co2 nox).1 e in cc
