-- The definitions on the base example of one region, technology, fuel, timeslice, mode and year, and near misses.
use Rattle.row_book.proofs.Common.{◌≡◌, ℕ, ◌*◌, ◌^◌, true, false, cond, List, [], ◌∷◌, map, pos, neg_ℤ, Some, None, inl, inr, refl, ap, sym, ◌∙◌, arith, enumerate_from, gcd_of, gcd_within, all_fit, in_range, lowest, plus, times, Data, Default, Input, Output, Emission, Index, Row, RowName, Most, Var, Billionths, Negative, Total, ascends, row_name_cmp, var_cmp, at_rrrlfy, by_rltfmy, index, instances, name_at, variable_of, new_capacity, rate_of_production_by_technology_by_mode, trade, variable, AreVariablesOf, AreRowsOf, CanBeMade, HasTooMany, IsTooWide, entries_in, row_fits, AreTriangular, Defines, IsChosen, cost_of, is_from, terms_at, cells_of_ratio, cells_of_some_mode, AreFirstAsked, instance_at, instances_in}
use Rattle.std.specs.Prelude.{ℤ, codes}
use Rattle.exact_num.specs.Formed.{product_formed, sum_formed}

-- ---- the data

abbrev pub whole : ℕ → ℤ
whole n = pos (n * 10 ^ 9)

abbrev minus_one : ℤ
minus_one = neg_ℤ (whole 1)

-- the defaults of the used parameters, from number 1, with this CapacityToActivityUnit
abbrev pub defaults : ℤ → List Default
defaults unit =
    map (λ entry. record { param = entry.0; value = entry.1 })
    (enumerate_from 1
    (whole 1 ∷ whole 0 ∷ whole 1 ∷ whole 0 ∷ whole 10 ∷ whole 1 ∷ whole 0 ∷ unit ∷ whole 1 ∷ whole 1 ∷ whole 1 ∷ whole 0 ∷ whole 0 ∷ whole 1
    ∷ whole 5 ∷ whole 2 ∷ whole 1 ∷ whole 0 ∷ minus_one ∷ whole 0 ∷ minus_one ∷ whole 0 ∷ minus_one ∷ whole 0 ∷ whole 0 ∷ whole 0
    ∷ whole 0 ∷ whole 0 ∷ whole 0 ∷ whole 0 ∷ whole 0 ∷ whole 0 ∷ whole 0 ∷ whole 0 ∷ whole 0 ∷ minus_one ∷ whole 0 ∷ minus_one ∷ []))

abbrev data_of : List (List ℕ) → ℤ → Data
data_of regions unit = record {
  sets = regions ∷ (codes "T" ∷ []) ∷ (codes "F" ∷ []) ∷ [] ∷ (codes "1" ∷ []) ∷ (codes "D" ∷ []) ∷ (codes "2020" ∷ []) ∷ [] ∷ [] ∷ [] ∷ [] ∷ [];
  given = [];
  defaults = defaults unit;
  second = false;
}

abbrev pub base : Data
base = data_of (codes "R" ∷ []) (whole 1)

abbrev two_regions : Data
two_regions = data_of (codes "A" ∷ codes "B" ∷ []) (whole 1)

abbrev pub at_zeros : ℕ → RowName
at_zeros eq = name_at eq (index 0 0 0 0 0 0 0 0)

-- ---- instances

-- 43 instances: none of use, as nothing is taken in, of the three equations of the salvage value the last one, and no limit
base_instances : instances base ≡ map at_zeros
    (1 ∷ 2 ∷ 3 ∷ 4 ∷ 5 ∷ 6 ∷ 7 ∷ 8 ∷ 9 ∷ 12 ∷ 13 ∷ 14 ∷ 15 ∷ 16 ∷ 17 ∷ 18 ∷ 19 ∷ 20 ∷ 21 ∷ 22 ∷ 24 ∷ 25 ∷ 26 ∷ 29 ∷ 30
    ∷ 31 ∷ 32 ∷ 33 ∷ 34 ∷ 38 ∷ 39 ∷ 40 ∷ 41 ∷ 42 ∷ 47 ∷ 50 ∷ 53 ∷ 54 ∷ 55 ∷ 56 ∷ 57 ∷ 58 ∷ 59 ∷ [])
base_instances = refl

-- they ascend; with two of them exchanged they don't, and no more with one twice
ascending : ascends row_name_cmp (at_zeros 2 ∷ at_zeros 3 ∷ []) ≡ true
ascending = refl

exchanged : ascends row_name_cmp (at_zeros 3 ∷ at_zeros 2 ∷ []) ≡ false
exchanged = refl

twice : ascends row_name_cmp (at_zeros 2 ∷ at_zeros 2 ∷ []) ≡ false
twice = refl

-- a row too few, and one too many
too_few : (name : RowName) → AreRowsOf 6 base (name ∷ []) [] → ⊥
too_few name are = are

too_many : (row : Row) → AreRowsOf 6 base [] (row ∷ []) → ⊥
too_many row are = are

-- ---- entries

-- eight entries in the rows of CAa1, EBa10, EBa11 and TAC1 together
some_entries : entries_in 6 base (map at_zeros (2 ∷ 16 ∷ 17 ∷ 50 ∷ [])) ≡ 8
unfolding lowest times plus gcd_of gcd_within
some_entries = refl

-- ---- equations as terms

-- the first and the last number, and the next
first_cost : is_from 25 34 25 ≡ true
first_cost = refl

last_cost : is_from 25 34 34 ≡ true
last_cost = refl

past_costs : is_from 25 34 35 ≡ false
past_costs = refl

-- AAC2, whose row is one of a limit, and E8, of emissions
upper_limit : (terms_at 6 base (at_zeros 48)).sense ≡ Most
upper_limit = refl

emission_limit : (terms_at 6 base (at_zeros 63)).right ≡ Total (Billionths minus_one) (Negative (Billionths (pos 0)))
emission_limit = refl

-- ---- where they are asked

-- the technology makes the fuel, and takes none
made : cells_of_ratio base Output 0 ≡ index 0 0 0 0 0 0 0 0 ∷ []
made = refl

taken : cells_of_some_mode base Input 0 ≡ []
taken = refl

-- there is no emission
given_off : cells_of_ratio base Emission 0 ≡ []
given_off = refl

-- of the one index of EBa1 none is listed where none is asked for, and it is where one is
none_listed : AreFirstAsked base 7 0 0 []
none_listed = record {
  rest = index 0 0 0 0 0 0 0 0 ∷ [];
  asked = record { asked = λ cell. true; are = refl; every = λ outer cell stands. refl };
  enough = inr (omega arith, record { stand = λ outer. tt; define = λ i. (by_rltfmy rate_of_production_by_technology_by_mode i, refl) });
}

one_left : AreFirstAsked base 7 0 1 [] → ⊥
one_left first =
    let only : Index = index 0 0 0 0 0 0 0 0 in
    let all : first.rest ≡ only ∷ [] = first.asked.are ∙ ap (λ b. cond b (only ∷ []) []) (first.asked.every only only refl) in
    elim first.enough [
      | inl none ↦ let nothing : [] ≡ only ∷ [] = sym none ∙ all in absurd (cc nothing)
      | inr many ↦ absurd (omega (arith, many.0))
    ]

-- CAa3 has an instance, and EBa4 none
one_instance : instances_in base 4 0 ≡ at_zeros 4 ∷ []
one_instance = refl

no_instance : instance_at base 10 (index 0 0 0 0 0 0 0 0) ≡ []
no_instance = refl

-- the two entries of CAa1 keep the limit, and with one more before them they don't
at_the_limit : CanBeMade 6 base 3999998 (at_zeros 2 ∷ [])
unfolding all_fit in_range gcd_of gcd_within
at_the_limit = record { fit = refl; few = omega arith }

past_the_limit : HasTooMany 6 base 3999999 (at_zeros 2 ∷ []) (at_zeros 2)
unfolding all_fit in_range gcd_of gcd_within
past_the_limit = record {
  stops = record { earlier = []; later = []; split = refl; made = record { fit = refl; few = omega arith } };
  fits = refl;
  many = omega arith;
}

-- with a capacity of 2^127 units of activity a row isn't written
wide : row_fits 6 (data_of (codes "R" ∷ []) (whole (2 ^ 127))) (at_zeros 6) ≡ false
unfolding all_fit in_range product_formed sum_formed lowest times plus gcd_of gcd_within
wide = refl

-- a row that fits isn't too wide, whatever stands around it
not_wide : (before : ℕ) (names : List RowName) → IsTooWide 6 base before names (at_zeros 6) → ⊥
unfolding all_fit in_range product_formed sum_formed lowest times plus gcd_of gcd_within
not_wide before names too_wide =
    let fits : row_fits 6 base (at_zeros 6) ≡ true = refl in
    let fails : row_fits 6 base (at_zeros 6) ≡ false = too_wide.wide in
    cc

-- ---- variables

-- a list with a variable twice isn't that of the variables of any rows
doubled : (rows : List Row) → AreVariablesOf rows (new_capacity 0 0 0 ∷ new_capacity 0 0 0 ∷ []) → ⊥
doubled rows are = let found : ascends var_cmp (new_capacity 0 0 0 ∷ new_capacity 0 0 0 ∷ []) ≡ true = are.ascending in cc

-- ---- definitions

-- of two regions the exchange from the earlier to the later defines the trade the other way, and the other one nothing
forth : variable_of (name_at 16 (at_rrrlfy 0 1 0 0 0)) ≡ Some (trade 1 0 0 0 0)
forth = refl

back : variable_of (name_at 16 (at_rrrlfy 1 0 0 0 0)) ≡ None
back = refl

-- within a region it defines the trade with itself
home : variable_of (name_at 16 (at_rrrlfy 0 0 0 0 0)) ≡ Some (trade 0 0 0 0 0)
home = refl

chosen : IsChosen (trade 0 1 0 0 0)
chosen = inr (inr (refl, omega arith))

-- two rows that define one variable aren't triangular
one_twice : (row : Row) (v : Var) → Defines row v → AreTriangular (row ∷ row ∷ []) → ⊥
one_twice row v defines triangular = let same : 0 ≡ 1 = triangular.once 0 1 row row v refl refl defines defines in omega (arith, same)

-- ---- cost

costs : cost_of (variable 37 (index 0 0 0 0 0 0 0 0)) ≡ pos 1
costs = refl

costs_nothing : cost_of (new_capacity 0 0 0) ≡ pos 0
costs_nothing = refl
