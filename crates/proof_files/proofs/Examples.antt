-- The definitions, computed on a model with one member in each set, and on near misses.
use Rattle.proof_files.proofs.Common.{◌≡◌, ℕ, zero, suc, ◌<◌, pos, false, List, [], ◌∷◌, inr, refl, arith, codes, slice_index_or, fields_text, is_blank, Rational, lowest, pair, SetLists, RowName, Var, fraction_text, Missing, Twice, UnknownVar, Breaks, Fields, HasValue, IsRight, header, Optimum, Refutation, Descent, descent_records, direction_fields, optimum_file, proof_names, refutation_records, IsProof, IsProofFault, named_of}
use Rattle.std.specs.Fmt.{digits}
use Rattle.exact_num.specs.Gcd.{gcd_of, gcd_within}
use Rattle.exact_num.specs.Range.{all_fit, in_range}
use Rattle.row_core.specs.declared.equation_numbers.TheConstants.{CAA4}
use Rattle.row_core.specs.declared.kind_numbers.TheConstants.{NEW_CAPACITY}
use Rattle.scaled_decimals.specs.Digits.{number_of}
use Rattle.scaled_decimals.specs.FractionText.{Quotient}

abbrev sets : SetLists
sets = (codes "R" ∷ []) ∷ (codes "T" ∷ []) ∷ (codes "F" ∷ []) ∷ [] ∷ (codes "1" ∷ []) ∷ (codes "D" ∷ []) ∷ (codes "2020" ∷ []) ∷ [] ∷ [] ∷ [] ∷ [] ∷ []

abbrev capacity : Var
capacity = record { kind = NEW_CAPACITY; index = record { region = 0; other = 0; slice = 0; tech = 0; fuel = 0; emission = 0; mode = 0; year = 0 } }

abbrev within_capacity : RowName
within_capacity = record { eq = CAA4; index = record { region = 0; other = 0; slice = 0; tech = 0; fuel = 0; emission = 0; mode = 0; year = 0 } }

abbrev vars : List Var
vars = capacity ∷ []

abbrev rows : List RowName
rows = within_capacity ∷ []

abbrev amount : Rational
amount = pair (pos 21) (pos 2)

-- ---- names

change_fields : direction_fields sets capacity ≡ codes "Direction.NewCapacity" ∷ codes "R" ∷ [] ∷ [] ∷ codes "T" ∷ [] ∷ [] ∷ [] ∷ codes "2020" ∷ []
change_fields = refl

-- ---- texts

optimum_as_text : optimum_file sets ((capacity, amount) ∷ []) ((within_capacity, amount) ∷ []) ≡ codes "NAME,REGION,REGION2,TIMESLICE,TECHNOLOGY,FUEL,EMISSION,MODE,YEAR,VALUE\nNewCapacity,R,,,T,,,,2020,21/2\nCAa4,R,,D,T,,,,2020,21/2\n"
unfolding fields_text is_blank fraction_text digits
optimum_as_text = refl

abbrev capacity_record : Fields
capacity_record = codes "NewCapacity" ∷ codes "R" ∷ [] ∷ [] ∷ codes "T" ∷ [] ∷ [] ∷ [] ∷ codes "2020" ∷ codes "21/2" ∷ []

abbrev equation_record : Fields
equation_record = codes "CAa4" ∷ codes "R" ∷ [] ∷ codes "D" ∷ codes "T" ∷ [] ∷ [] ∷ [] ∷ codes "2020" ∷ codes "21/2" ∷ []

abbrev change_record : Fields
change_record = codes "Direction.NewCapacity" ∷ codes "R" ∷ [] ∷ [] ∷ codes "T" ∷ [] ∷ [] ∷ [] ∷ codes "2020" ∷ codes "21/2" ∷ []

-- the multiplier 0 isn't written
nothing_refuted : refutation_records sets ((within_capacity, pair (pos 0) (pos 1)) ∷ []) ≡ header ∷ []
nothing_refuted = refl

descent_written : descent_records sets ((capacity, amount) ∷ []) ((capacity, amount) ∷ []) ≡ header ∷ capacity_record ∷ change_record ∷ []
unfolding fraction_text digits
descent_written = refl

-- ---- what records tell

half_of_21 : HasValue (codes "21/2") amount
unfolding number_of lowest gcd_of gcd_within all_fit in_range
half_of_21 = (record { negative = false; form = Quotient (codes "21") (codes "2") }, record { formed = ((omega arith, refl), (omega arith, refl)); bytes = refl; nonzero = λ e. cc }, refl, refl)

abbrev names : List Fields
names = proof_names sets vars rows

right_variable : IsRight names [] capacity_record
right_variable = record { ten = refl; known = (0, omega arith, refl); once = refl; value = amount; exact = half_of_21 }

right_equation : IsRight names (capacity_record ∷ []) equation_record
right_equation = record { ten = refl; known = (1, omega arith, refl); once = refl; value = amount; exact = half_of_21 }

right_change : IsRight names (capacity_record ∷ []) change_record
right_change = record { ten = refl; known = (2, omega arith, refl); once = refl; value = amount; exact = half_of_21 }

-- a plan and multipliers
one_optimum : IsProof sets vars rows (header ∷ capacity_record ∷ equation_record ∷ []) (Optimum ((capacity, amount) ∷ []) ((within_capacity, amount) ∷ []))
one_optimum =
    record {
      rows = capacity_record ∷ equation_record ∷ [];
      form = record { whole = refl; right = (right_variable, (right_equation, tt)) };
      told = (
        λ e. cc e,
        refl,
        record { whole = refl; values = ((amount, refl, half_of_21), tt) },
        record { named = refl; values = ((amount, refl, half_of_21), tt) },
      );
    }

-- a plan and a direction
one_descent : IsProof sets vars rows (header ∷ capacity_record ∷ change_record ∷ []) (Descent ((capacity, amount) ∷ []) ((capacity, amount) ∷ []))
one_descent =
    record {
      rows = capacity_record ∷ change_record ∷ [];
      form = record { whole = refl; right = (right_variable, (right_change, tt)) };
      told = (
        λ e. cc e,
        record { whole = refl; values = ((amount, refl, half_of_21), tt) },
        record { named = refl; values = ((amount, refl, half_of_21), tt) },
      );
    }

-- the header alone: multipliers, all of them 0
header_alone : IsProof sets vars rows (header ∷ []) (Refutation [])
header_alone =
    record {
      rows = [];
      form = record { whole = refl; right = tt };
      told = (record { no_variable = refl; no_direction = refl }, record { named = refl; values = tt });
    }

-- a direction without a plan: the variable is missing
right_change_alone : IsRight names [] change_record
right_change_alone = record { ten = refl; known = (2, omega arith, refl); once = refl; value = amount; exact = half_of_21 }

plan_missing : IsProofFault sets vars rows (header ∷ change_record ∷ []) (Missing capacity)
plan_missing =
    inr (record {
      rows = change_record ∷ [];
      form = record { whole = refl; right = (right_change_alone, tt) };
      misses = record { planned = λ none. cc none.no_direction; v = capacity; first = refl; missing = refl };
    })

-- ---- near misses

-- a value twice, and one of the plan beside one of the direction
named_twice : Breaks names (capacity_record ∷ []) capacity_record (Twice 3)
named_twice = (refl, refl, (0, omega arith, refl), refl)

-- a row of another member, a variable that there isn't, and a word that only begins as one of a direction
no_such_word : Breaks names [] (codes "Direction.CAa4" ∷ codes "R" ∷ [] ∷ codes "D" ∷ codes "T" ∷ [] ∷ [] ∷ [] ∷ codes "2020" ∷ codes "1" ∷ []) (UnknownVar 2)
no_such_word = (refl, refl, λ known. unknown known.0 known.1 known.2)
  where
    unknown : (i : ℕ) → i < 3 → slice_index_or names i (codes "Direction.CAa4" ∷ codes "R" ∷ [] ∷ codes "D" ∷ codes "T" ∷ [] ∷ [] ∷ [] ∷ codes "2020" ∷ []) ≡ codes "Direction.CAa4" ∷ codes "R" ∷ [] ∷ codes "D" ∷ codes "T" ∷ [] ∷ [] ∷ [] ∷ codes "2020" ∷ [] → ⊥
    unknown zero l e = cc e
    unknown (suc zero) l e = cc e
    unknown (suc (suc zero)) l e = cc e
    unknown (suc (suc (suc i))) l e = omega (arith, l)

-- a multiplier of 0 in a record of its own is a multiplier, and no value of a plan
zero_told : named_of (direction_fields sets) (equation_record ∷ []) vars ≡ []
zero_told = refl
