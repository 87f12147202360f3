-- The changes of a file, computed on data of one region, two technologies and three years, and on near misses.
use Rattle.data_changes.proofs.Common.{◌≡◌, true, false, List, [], ◌∷◌, Result, Err, Ok, codes, refl, ℕ, ℤ}
use Rattle.std.specs.Prelude.{◌*◌, pos}
use Rattle.csv.specs.Machine.{next_record}
use Rattle.csv.specs.Reading.{records_from, strip_bom}
use Rattle.model_sets.specs.Data.{Data, Given}
use Rattle.model_sets.specs.declared.param_numbers.TheConstants.{CAPITAL_COST}
use Rattle.param_tables.specs.Built.{Built}
use Rattle.param_tables.specs.Canonical.{defaults_in_order, given_in_order, given_value}
use Rattle.param_tables.specs.Changes.{Every, Named, One, Years, is_named}
use Rattle.param_tables.specs.declared.change.ChangeKind.{ChangeKind}
use Rattle.param_tables.specs.declared.change.ChangeKind.TheVariants.{Add, Multiply, Put}
use Rattle.plan_files.specs.Files.{Fields}
use Rattle.scaled_decimals.specs.DecimalReading.{denominator, numerator}
use Rattle.scaled_decimals.specs.Digits.{number_of}
use Rattle.scaled_decimals.specs.NumberReading.{decimal_in}
unfoldable use Rattle.data_changes.specs.Columns.{are_among, has_twice, is_stray, names_in_others}
use Rattle.data_changes.specs.Columns.{is_header}
use Rattle.data_changes.specs.Faults.{BadChange, BadHeader, BadNumber, BadRecord, RecordFault, UnknownMember, UnknownName}
unfoldable use Rattle.data_changes.specs.Files.{after_file, after_record, after_records}
use Rattle.data_changes.specs.Records.{ToldChange}
unfoldable use Rattle.data_changes.specs.Records.{change_in}

-- ---- headers

abbrev columns : Fields
columns = codes "NAME" ∷ codes "TECHNOLOGY" ∷ codes "YEAR" ∷ codes "CHANGE" ∷ codes "VALUE" ∷ []

in_order : is_header columns ≡ true
unfolding has_twice are_among
in_order = refl

-- the order of the columns is free
another_order : is_header (codes "VALUE" ∷ codes "CHANGE" ∷ codes "_REGION" ∷ codes "NAME" ∷ []) ≡ true
unfolding has_twice are_among
another_order = refl

-- a column twice, one of no name, and one that is missing
a_column_twice : is_header (codes "NAME" ∷ codes "YEAR" ∷ codes "YEAR" ∷ codes "CHANGE" ∷ codes "VALUE" ∷ []) ≡ false
unfolding has_twice are_among
a_column_twice = refl

no_column : is_header (codes "NAME" ∷ codes "Year" ∷ codes "CHANGE" ∷ codes "VALUE" ∷ []) ≡ false
unfolding has_twice are_among
no_column = refl

without_changes : is_header (codes "NAME" ∷ codes "YEAR" ∷ codes "VALUE" ∷ []) ≡ false
unfolding has_twice are_among
without_changes = refl

-- ---- data: a unit of GAS costs 1000 in each year, one of WIND 2000, then 1500, then 1000

abbrev index : List ℕ → List ℕ → List (List ℕ)
index technology year = codes "R" ∷ technology ∷ year ∷ []

abbrev cost : List ℕ → List ℕ → ℕ → Given
cost technology year units = given_value CAPITAL_COST (index technology year) (pos (units * 1000000000))

abbrev data_with : List Given → Data
data_with given = record {
  sets = (codes "R" ∷ []) ∷ (codes "GAS" ∷ codes "WIND" ∷ []) ∷ [] ∷ [] ∷ [] ∷ [] ∷ (codes "2030" ∷ codes "2040" ∷ codes "2050" ∷ []) ∷ [] ∷ [] ∷ [] ∷ [] ∷ [];
  given = given;
  defaults = record { param = CAPITAL_COST; value = pos 1000000000000 } ∷ [];
  second = false;
}

abbrev costs : Data
costs = data_with (cost (codes "WIND") (codes "2030") 2000 ∷ cost (codes "WIND") (codes "2040") 1500 ∷ [])

abbrev before : Built
before = record { facts = costs; rounded = 0 }

abbrev built_with : List Given → Built
built_with given = record { facts = data_with given; rounded = 0 }

-- ---- what a record says

abbrev row : List ℕ → List ℕ → List ℕ → List ℕ → List ℕ → Fields
row name technology year change value = name ∷ technology ∷ year ∷ change ∷ value ∷ []

abbrev told : List Named → ChangeKind → ℤ → Result ToldChange RecordFault
told named kind amount = Ok (record { change = record { param = CAPITAL_COST; named = named; kind = kind; amount = amount }; rounded = false })

-- wind a fifth cheaper, in every year
a_fifth_less : change_in costs columns (row (codes "CapitalCost") (codes "WIND") [] (codes "*") (codes "0.8")) ≡ told (Every ∷ One (codes "WIND") ∷ Every ∷ []) Multiply (pos 800000000)
unfolding change_in is_stray names_in_others decimal_in number_of numerator denominator
a_fifth_less = refl

-- the columns in another order say the same
by_their_names : change_in costs (codes "VALUE" ∷ codes "CHANGE" ∷ codes "TECHNOLOGY" ∷ codes "NAME" ∷ []) (codes "0.8" ∷ codes "*" ∷ codes "WIND" ∷ codes "CapitalCost" ∷ []) ≡ told (Every ∷ One (codes "WIND") ∷ Every ∷ []) Multiply (pos 800000000)
unfolding change_in is_stray names_in_others decimal_in number_of numerator denominator
by_their_names = refl

-- the years from one to another, and no more
some_years : change_in costs columns (row (codes "CapitalCost") (codes "*") (codes "2030-2040") (codes "+") (codes "100")) ≡ told (Every ∷ Every ∷ Years 2030 2040 ∷ []) Add (pos 100000000000)
unfolding change_in is_stray names_in_others decimal_in number_of numerator denominator
some_years = refl

to_the_last : is_named (Years 2030 2040) (codes "2040") ≡ true
to_the_last = refl

not_past_it : is_named (Years 2030 2040) (codes "2050") ≡ false
not_past_it = refl

-- the other way round they are none, and neither are years of which one is no member
the_wrong_way_round : change_in costs columns (row (codes "CapitalCost") [] (codes "2040-2030") (codes "+") (codes "100")) ≡ Err UnknownMember
unfolding change_in is_stray names_in_others decimal_in number_of numerator denominator
the_wrong_way_round = refl

no_such_year : change_in costs columns (row (codes "CapitalCost") [] (codes "2030-2045") (codes "+") (codes "100")) ≡ Err UnknownMember
unfolding change_in is_stray names_in_others decimal_in number_of numerator denominator
no_such_year = refl

no_such_technology : change_in costs columns (row (codes "CapitalCost") (codes "WAVE") [] (codes "+") (codes "100")) ≡ Err UnknownMember
unfolding change_in is_stray names_in_others decimal_in number_of numerator denominator
no_such_technology = refl

-- the columns of others are empty, or name every member
a_stray_column : change_in costs (codes "NAME" ∷ codes "FUEL" ∷ codes "CHANGE" ∷ codes "VALUE" ∷ []) (codes "CapitalCost" ∷ codes "COAL" ∷ codes "=" ∷ codes "1" ∷ []) ≡ Err BadRecord
unfolding change_in is_stray names_in_others decimal_in number_of numerator denominator
a_stray_column = refl

none_in_it : change_in costs (codes "NAME" ∷ codes "FUEL" ∷ codes "CHANGE" ∷ codes "VALUE" ∷ []) (codes "CapitalCost" ∷ codes "*" ∷ codes "=" ∷ codes "1" ∷ []) ≡ told (Every ∷ Every ∷ Every ∷ []) Put (pos 1000000000)
unfolding change_in is_stray names_in_others decimal_in number_of numerator denominator
none_in_it = refl

a_field_too_few : change_in costs columns (codes "CapitalCost" ∷ codes "WIND" ∷ codes "*" ∷ codes "0.8" ∷ []) ≡ Err BadRecord
unfolding change_in
a_field_too_few = refl

no_such_parameter : change_in costs columns (row (codes "CapitalCosts") [] [] (codes "*") (codes "0.8")) ≡ Err UnknownName
unfolding change_in
no_such_parameter = refl

-- a parameter of which the data have no statement isn't used
without_a_statement : change_in costs columns (row (codes "DiscountRateIdv") (codes "WIND") [] (codes "=") (codes "0.1")) ≡ Err UnknownName
unfolding change_in
without_a_statement = refl

a_bad_number : change_in costs columns (row (codes "CapitalCost") (codes "WIND") [] (codes "*") (codes "0,8")) ≡ Err BadNumber
unfolding change_in is_stray names_in_others decimal_in number_of numerator denominator
a_bad_number = refl

a_bad_change : change_in costs columns (row (codes "CapitalCost") (codes "WIND") [] (codes "-") (codes "0.8")) ≡ Err BadChange
unfolding change_in is_stray names_in_others decimal_in number_of numerator denominator
a_bad_change = refl

-- ---- files

-- wind a fifth cheaper: 1600, 1200 and 800
cheaper_wind : after_file before (codes "NAME,TECHNOLOGY,CHANGE,VALUE\nCapitalCost,WIND,*,0.8\n") ≡ Ok (built_with (cost (codes "WIND") (codes "2030") 1600 ∷ cost (codes "WIND") (codes "2040") 1200 ∷ cost (codes "WIND") (codes "2050") 800 ∷ []))
unfolding after_file after_records after_record change_in is_stray names_in_others has_twice are_among decimal_in number_of numerator denominator next_record records_from strip_bom given_in_order defaults_in_order
cheaper_wind = refl

-- half of 2000 and 100 more are 1100
halved_then_more : after_file before (codes "NAME,TECHNOLOGY,YEAR,CHANGE,VALUE\nCapitalCost,WIND,2030,*,0.5\nCapitalCost,WIND,2030,+,100\n") ≡ Ok (built_with (cost (codes "WIND") (codes "2030") 1100 ∷ cost (codes "WIND") (codes "2040") 1500 ∷ []))
unfolding after_file after_records after_record change_in is_stray names_in_others has_twice are_among decimal_in number_of numerator denominator next_record records_from strip_bom given_in_order defaults_in_order
halved_then_more = refl

-- half of 2100 are 1050
more_then_halved : after_file before (codes "NAME,TECHNOLOGY,YEAR,CHANGE,VALUE\nCapitalCost,WIND,2030,+,100\nCapitalCost,WIND,2030,*,0.5\n") ≡ Ok (built_with (cost (codes "WIND") (codes "2030") 1050 ∷ cost (codes "WIND") (codes "2040") 1500 ∷ []))
unfolding after_file after_records after_record change_in is_stray names_in_others has_twice are_among decimal_in number_of numerator denominator next_record records_from strip_bom given_in_order defaults_in_order
more_then_halved = refl

-- a fault is told with the number of its record
in_the_third : after_file before (codes "NAME,TECHNOLOGY,CHANGE,VALUE\nCapitalCost,WIND,*,0.8\nCapitalCost,WAVE,*,0.8\n") ≡ Err (record { number = 3; fault = UnknownMember })
unfolding after_file after_records after_record change_in is_stray names_in_others has_twice are_among decimal_in number_of numerator denominator next_record records_from strip_bom given_in_order defaults_in_order
in_the_third = refl

-- an empty file has no header
nothing : after_file before [] ≡ Err (record { number = 1; fault = BadHeader })
unfolding after_file next_record records_from strip_bom
nothing = refl

-- a header alone changes nothing
a_header_alone : after_file before (codes "NAME,CHANGE,VALUE\n") ≡ Ok before
unfolding after_file after_records has_twice are_among next_record records_from strip_bom
a_header_alone = refl
