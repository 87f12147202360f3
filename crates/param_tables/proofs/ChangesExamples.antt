-- Changes of data, computed on worked examples and near misses.
use Rattle.param_tables.proofs.Common.{◌≡◌, ℕ, ◌∷◌, [], List, true, false, Some, refl, pos, negsuc, codes, ℤ, Data, Given, value_at, defaults_in_order, given_in_order, given_value, AtIndex, OutOfRange}
use Rattle.model_sets.specs.declared.param_numbers.TheConstants.{ANNUAL_EMISSION_LIMIT, ANNUAL_EXOGENOUS_EMISSION, TOTAL_ANNUAL_MAX_CAPACITY}
use Rattle.param_tables.specs.Changes.{Change, Every, Named, One, Years, change_refusals, changed_value, indices_named, is_named, is_product_rounded, product, rounded_by, with_change}
unfoldable use Rattle.param_tables.specs.Changes.{changed}
use Rattle.param_tables.specs.declared.change.ChangeKind.{ChangeKind}
use Rattle.param_tables.specs.declared.change.ChangeKind.TheVariants.{Add, Multiply, Put}

-- ---- products

-- a fifth cheaper: 3 by 0.8 is 2.4
a_fifth_less : product (pos 3000000000) (pos 800000000) ≡ pos 2400000000
a_fifth_less = refl

-- half a billionth goes away from 0, up and down
half_up : product (pos 1) (pos 500000000) ≡ pos 1
half_up = refl

half_down : product (negsuc 0) (pos 500000000) ≡ negsuc 0
half_down = refl

-- less than half goes to 0
below_half : product (pos 1) (pos 499999999) ≡ pos 0
below_half = refl

-- a half isn't cut off
not_cut_off : product (pos 1) (pos 500000000) ≡ pos 0 → ⊥
not_cut_off e = let no : pos 1 ≡ pos 0 = e in cc

-- two factors below 0 give a number above it
both_below : product (negsuc 1999999999) (negsuc 499999999) ≡ pos 1000000000
both_below = refl

-- a third of a billionth is rounded, a whole one isn't
a_third_is_rounded : is_product_rounded (pos 1) (pos 333333333) ≡ true
a_third_is_rounded = refl

a_whole_is_not : is_product_rounded (pos 3) (pos 1000000000) ≡ false
a_whole_is_not = refl

-- ---- what is named

-- the year at the end of a range is in it
to_its_end : is_named (Years 2035 2050) (codes "2050") ≡ true
to_its_end = refl

from_its_begin : is_named (Years 2035 2050) (codes "2035") ≡ true
from_its_begin = refl

-- and the next isn't
not_past_its_end : is_named (Years 2035 2050) (codes "2051") ≡ false
not_past_its_end = refl

-- a name of which the one is the beginning isn't named
not_by_its_beginning : is_named (One (codes "CO")) (codes "CO2") ≡ false
not_by_its_beginning = refl

-- ---- two emissions of a region in three years: NOX has a limit of 4 in 2040, and elsewhere there is none

abbrev limit : ℕ
limit = ANNUAL_EMISSION_LIMIT

abbrev index : List ℕ → List ℕ → List (List ℕ)
index emission year = codes "R" ∷ emission ∷ year ∷ []

abbrev data_of_values : List Given → Data
data_of_values given = record {
  sets = (codes "R" ∷ []) ∷ [] ∷ [] ∷ (codes "CO2" ∷ codes "NOX" ∷ []) ∷ [] ∷ [] ∷ (codes "2030" ∷ codes "2040" ∷ codes "2050" ∷ []) ∷ [] ∷ [] ∷ [] ∷ [] ∷ [];
  given = given;
  defaults = record { param = limit; value = negsuc 999999999 } ∷ [];
  second = false;
}

abbrev given_for : List ℕ → List ℕ → ℤ → Given
given_for emission year value = given_value limit (index emission year) value

abbrev limits : Data
limits = data_of_values (given_for (codes "NOX") (codes "2040") (pos 4000000000) ∷ [])

abbrev change_by : List Named → ChangeKind → ℤ → Change
change_by named kind amount = record { param = limit; named = named; kind = kind; amount = amount }

-- NOX from 2040 on
abbrev later_nox : List Named
later_nox = Every ∷ One (codes "NOX") ∷ Years 2040 2050 ∷ []

abbrev everywhere : List Named
everywhere = Every ∷ Every ∷ Every ∷ []

-- the indices that are named, in the order of the members
two_named : indices_named limits (change_by later_nox Put (pos 0)) ≡ index (codes "NOX") (codes "2040") ∷ index (codes "NOX") (codes "2050") ∷ []
two_named = refl

-- a cap of 2 from 2040 on
capped : with_change limits (change_by later_nox Put (pos 2000000000)) ≡ data_of_values (given_for (codes "NOX") (codes "2040") (pos 2000000000) ∷ given_for (codes "NOX") (codes "2050") (pos 2000000000) ∷ [])
unfolding given_in_order defaults_in_order
capped = refl

-- half of every limit: where there is none, there is none still, and no value is given there
halved : with_change limits (change_by everywhere Multiply (pos 500000000)) ≡ data_of_values (given_for (codes "NOX") (codes "2040") (pos 2000000000) ∷ [])
unfolding given_in_order defaults_in_order
halved = refl

-- so no value of 0.5 below 0 comes of it, which would be refused
none_refused : change_refusals limits (change_by everywhere Multiply (pos 500000000)) ≡ []
none_refused = refl

-- 1 more
one_more : with_change limits (change_by everywhere Add (pos 1000000000)) ≡ data_of_values (given_for (codes "NOX") (codes "2040") (pos 5000000000) ∷ [])
unfolding given_in_order defaults_in_order
one_more = refl

-- by 1, and 0 more: nothing changes, and no default becomes a value
by_one : with_change limits (change_by everywhere Multiply (pos 1000000000)) ≡ limits
unfolding given_in_order defaults_in_order
by_one = refl

none_more : with_change limits (change_by everywhere Add (pos 0)) ≡ limits
unfolding given_in_order defaults_in_order
none_more = refl

-- -1 of a parameter that knows no such limit is a number
a_number : changed_value (record { param = ANNUAL_EXOGENOUS_EMISSION; named = []; kind = Multiply; amount = pos 2000000000 }) (negsuc 999999999) ≡ negsuc 1999999999
a_number = refl

-- ---- one after another

-- a limit of 2 and 1 more are 3
then_more : value_at (changed limits (change_by later_nox Put (pos 2000000000) ∷ change_by everywhere Add (pos 1000000000) ∷ [])) limit (index (codes "NOX") (codes "2040")) ≡ Some (pos 3000000000)
unfolding changed given_in_order defaults_in_order
then_more = refl

-- in the other order the limit of 2 comes last
then_put : value_at (changed limits (change_by everywhere Add (pos 1000000000) ∷ change_by later_nox Put (pos 2000000000) ∷ [])) limit (index (codes "NOX") (codes "2040")) ≡ Some (pos 2000000000)
unfolding changed given_in_order defaults_in_order
then_put = refl

-- no changes change nothing
no_changes : changed limits [] ≡ limits
unfolding changed
no_changes = refl

-- ---- refusals: two technologies in two years, of which WIND has a capacity of 4 at most in 2040

abbrev capacity : ℕ
capacity = TOTAL_ANNUAL_MAX_CAPACITY

abbrev wind : List ℕ → List (List ℕ)
wind year = codes "R" ∷ codes "WIND" ∷ year ∷ []

abbrev capacities : Data
capacities = record {
  sets = (codes "R" ∷ []) ∷ (codes "GAS" ∷ codes "WIND" ∷ []) ∷ [] ∷ [] ∷ [] ∷ [] ∷ (codes "2030" ∷ codes "2040" ∷ []) ∷ [] ∷ [] ∷ [] ∷ [] ∷ [];
  given = given_value capacity (wind (codes "2040")) (pos 4000000000) ∷ [];
  defaults = record { param = capacity; value = negsuc 999999999 } ∷ [];
  second = false;
}

abbrev capacity_by : List Named → ChangeKind → ℤ → Change
capacity_by named kind amount = record { param = capacity; named = named; kind = kind; amount = amount }

-- 6 less than 4 is out of range; where there is no limit, nothing is
refused : change_refusals capacities (capacity_by everywhere Add (negsuc 5999999999)) ≡ AtIndex OutOfRange capacity (wind (codes "2040")) ∷ []
refused = refl

-- 5 less is -1, and then there is no limit
lifted : with_change capacities (capacity_by everywhere Add (negsuc 4999999999)) ≡ record { sets = capacities.sets; given = given_value capacity (wind (codes "2040")) (negsuc 999999999) ∷ []; defaults = capacities.defaults; second = false }
unfolding given_in_order defaults_in_order
lifted = refl

-- a value put that is out of its range is refused at each index, in the order of the members
refused_each : change_refusals capacities (capacity_by (Every ∷ One (codes "WIND") ∷ Every ∷ []) Put (negsuc 0)) ≡ AtIndex OutOfRange capacity (wind (codes "2030")) ∷ AtIndex OutOfRange capacity (wind (codes "2040")) ∷ []
refused_each = refl

-- a product above 10^15
too_large : change_refusals limits (change_by everywhere Multiply (pos 1000000000000000000000000)) ≡ AtIndex OutOfRange limit (index (codes "NOX") (codes "2040")) ∷ []
too_large = refl

-- ---- rounded values

abbrev odd : Data
odd = data_of_values (given_for (codes "NOX") (codes "2040") (pos 4000000001) ∷ [])

-- half of 4.000000001 is rounded; the limits that there aren't are left, and not counted
one_rounded : rounded_by odd (change_by everywhere Multiply (pos 500000000)) ≡ 1
one_rounded = refl

-- twice as much isn't, and what is put never is
none_rounded : rounded_by odd (change_by everywhere Multiply (pos 2000000000)) ≡ 0
none_rounded = refl

none_by_put : rounded_by odd (change_by everywhere Put (pos 1)) ≡ 0
none_by_put = refl
