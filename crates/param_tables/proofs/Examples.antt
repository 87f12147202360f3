-- The definitions computed on worked examples, and on near misses.
use Rattle.param_tables.proofs.Common.{◌≡◌, ℕ, true, false, ◌∷◌, ◌++◌, [], List, Some, None, Option, refl, map, pos, negsuc, set, arith, false≢true, Mark, SetFault, value_at, data_told, set_lists, is_given, canonical, defaults_in_order, given_in_order, names_at, whole, set_word, param_word, commodity, ratio_param, Input, Output, Emission, Refusal, storage, StorageMember, UnknownName, GivenBefore, AtIndex, first_refusal, first_set_refusal, Blocks, SetBlock, ParamBlock, GivenValue, NoValue, Negative, NotWhole, OutOfRange, WholeUnits}
use Rattle.std.specs.Prelude.{codes, ℤ, ◌-◌}
use Rattle.std.specs.Fmt.{digits}
use Rattle.param_tables.specs.SameData.{AreGivenAlike}

-- ---- numbers

-- -0.5 and -1
minus_half : ℤ
minus_half = negsuc 499999999

minus_whole : ℤ
minus_whole = negsuc 999999999

-- ---- the numbers that the definitions name

word_of_storage : set_word storage ≡ codes "STORAGE"
word_of_storage = refl

ratios : map (λ ratio. param_word (ratio_param ratio)) (Input ∷ Output ∷ Emission ∷ []) ≡ codes "InputActivityRatio" ∷ codes "OutputActivityRatio" ∷ codes "EmissionActivityRatio" ∷ []
ratios = refl

commodities : map (λ ratio. set_word (commodity ratio)) (Input ∷ Output ∷ Emission ∷ []) ≡ codes "FUEL" ∷ codes "FUEL" ∷ codes "EMISSION" ∷ []
commodities = refl

-- ---- a model of one region, technology, fuel, mode, timeslice and year, with defaults alone

on_set : ℕ → List (List ℕ) → SetBlock
on_set k names = record { set = k; members = names }

by_default : ℕ → ℤ → ParamBlock
by_default n v = record { param = n; default = Some v; values = [] }

by_values : ℕ → List GivenValue → ParamBlock
by_values n values = record { param = n; default = None; values = values }

place : ℕ → ℕ → Mark
place line column = record { line = line; column = column }

value : List (List ℕ) → ℤ → Mark → GivenValue
value index v at = record { index = index; value = v; at = at }

some_sets : List SetBlock
some_sets =
    on_set 1 (codes "R" ∷ [])
    ∷ on_set 2 (codes "T" ∷ [])
    ∷ on_set 3 (codes "F" ∷ [])
    ∷ on_set 5 (codes "1" ∷ [])
    ∷ on_set 6 (codes "D" ∷ [])
    ∷ on_set 7 (codes "2020" ∷ [])
    ∷ []

defaults : List ParamBlock
defaults =
    by_default 1 (pos 1000000000)
    ∷ by_default 2 (pos 0)
    ∷ by_default 3 (pos 1000000000)
    ∷ by_default 4 (pos 0)
    ∷ by_default 5 (pos 10000000000)
    ∷ by_default 6 (pos 1000000000)
    ∷ by_default 7 (pos 0)
    ∷ by_default 8 (pos 1000000000)
    ∷ by_default 9 (pos 1000000000)
    ∷ by_default 10 (pos 1000000000)
    ∷ by_default 11 (pos 1000000000)
    ∷ by_default 12 (pos 0)
    ∷ by_default 13 (pos 0)
    ∷ by_default 14 (pos 1000000000)
    ∷ by_default 15 (pos 5000000000)
    ∷ by_default 16 (pos 2000000000)
    ∷ by_default 17 (pos 1000000000)
    ∷ by_default 18 (pos 0)
    ∷ by_default 19 (negsuc 999999999)
    ∷ by_default 20 (pos 0)
    ∷ by_default 21 (negsuc 999999999)
    ∷ by_default 22 (pos 0)
    ∷ by_default 23 (negsuc 999999999)
    ∷ by_default 24 (pos 0)
    ∷ by_default 25 (pos 0)
    ∷ by_default 26 (pos 0)
    ∷ by_default 27 (pos 0)
    ∷ by_default 28 (pos 0)
    ∷ by_default 29 (pos 0)
    ∷ by_default 30 (pos 0)
    ∷ by_default 31 (pos 0)
    ∷ by_default 32 (pos 0)
    ∷ by_default 33 (pos 0)
    ∷ by_default 34 (pos 0)
    ∷ by_default 35 (pos 0)
    ∷ by_default 36 (negsuc 999999999)
    ∷ by_default 37 (pos 0)
    ∷ by_default 38 (negsuc 999999999)
    ∷ []

of : List SetBlock → List ParamBlock → Blocks
of sets params = record { sets = sets; params = params; rounded = 0 }

-- the same with another statement on a parameter
but : ParamBlock → List ParamBlock
but statement = set defaults (statement.param - 1) statement

base : Blocks
base = of some_sets defaults

base_sets : first_set_refusal base ≡ None
unfolding base of some_sets on_set digits
base_sets = refl

accepted : first_refusal base ≡ None
unfolding base of some_sets defaults on_set by_default
accepted = refl

-- a value at the only index, and a default of the unit of capacity that nobody gives
kept : value_at (data_told base) 5 (codes "R" ∷ codes "F" ∷ codes "2020" ∷ []) ≡ Some (whole 10)
unfolding base of some_sets defaults on_set by_default
kept = refl

-- defaults alone, one of each parameter in order, are in canonical form
in_form : canonical (data_told base) ≡ data_told base
unfolding base of some_sets defaults on_set by_default given_in_order defaults_in_order
in_form = refl

unit : Blocks
unit = of some_sets (but (by_values 18 []))

units : first_refusal unit ≡ None
unfolding unit but of some_sets defaults on_set by_default by_values
units = refl

unit_value : value_at (data_told unit) 18 (codes "R" ∷ codes "T" ∷ codes "2020" ∷ []) ≡ Some (pos 0)
unfolding unit but of some_sets defaults on_set by_default by_values
unit_value = refl

-- ---- what was given

-- the only index of CapitalCost, and of another technology
here : List (List ℕ)
here = codes "R" ∷ codes "T" ∷ codes "2020" ∷ []

elsewhere : List (List ℕ)
elsewhere = codes "R" ∷ codes "U" ∷ codes "2020" ∷ []

-- CapitalCost by its default alone, which is 5, and with 5 given at its only index
cost_by_default : Blocks
cost_by_default = of some_sets (but (by_default 15 (whole 5)))

cost_given : Blocks
cost_given = of some_sets (but (record { param = 15; default = Some (whole 5); values = value here (whole 5) (place 1 1) ∷ [] }))

-- a default alone gives no value
default_is_none : is_given (data_told cost_by_default) 15 here ≡ false
unfolding cost_by_default but of some_sets defaults on_set by_default here
default_is_none = refl

-- a value that equals the default is given, at its own index and of its own parameter
equal_to_default : is_given (data_told cost_given) 15 here ≡ true
unfolding cost_given but of some_sets defaults on_set by_default here value place
equal_to_default = refl

other_index : is_given (data_told cost_given) 15 elsewhere ≡ false
unfolding cost_given but of some_sets defaults on_set by_default here elsewhere value place
other_index = refl

other_param : is_given (data_told cost_given) 16 here ≡ false
unfolding cost_given but of some_sets defaults on_set by_default here value place
other_param = refl

-- the value of none isn't given
unit_is_none : is_given (data_told (of some_sets (but (by_values 18 [])))) 18 here ≡ false
unfolding but of some_sets defaults on_set by_default by_values here
unit_is_none = refl

-- the two have the same value there, so that the values alone don't tell them apart, and are not given alike
same_cost : value_at (data_told cost_by_default) 15 here ≡ value_at (data_told cost_given) 15 here
unfolding cost_by_default cost_given but of some_sets defaults on_set by_default here value place
same_cost = refl

not_alike : AreGivenAlike (data_told cost_by_default) (data_told cost_given) → ⊥
unfolding cost_by_default cost_given but of some_sets defaults on_set by_default here value place
not_alike alike = false≢true (alike.each 15 ((omega arith, omega arith), refl) here (0, omega arith, refl))

alike_itself : AreGivenAlike (data_told cost_given) (data_told cost_given)
alike_itself = record { each = λ param used index has. refl }

-- ---- positions

positions : names_at (set_lists base) 5 (0 ∷ 0 ∷ 0 ∷ []) ≡ codes "R" ∷ codes "F" ∷ codes "2020" ∷ []
unfolding base of some_sets defaults on_set by_default
positions = refl

-- ---- refused sets

nothing : Option SetFault
nothing = first_set_refusal (of [] [])

-- no statement at all: REGION is empty
empty_text : nothing ≡ Some (record { no = 2; set = 1 })
unfolding nothing of digits
empty_text = refl

-- the same sets, with another statement in place of the one at this place
with_set : ℕ → SetBlock → Blocks
with_set i statement = of (set some_sets i statement) []

letters : List (List ℕ)
letters = map (λ c. c ∷ []) (codes "ABCDEFGHIJKLMNOPQRSTU")

-- 21 regions
crowd : first_set_refusal (with_set 0 (on_set 1 letters)) ≡ Some (record { no = 4; set = 1 })
unfolding with_set of on_set some_sets letters digits
crowd = refl

-- a year twice; a year with a leading zero; a refused year goes before an empty region
year_twice : first_set_refusal (with_set 5 (on_set 7 (codes "2020" ∷ codes "2020" ∷ []))) ≡ Some (record { no = 1; set = 7 })
unfolding with_set of on_set some_sets digits
year_twice = refl

year_zero : first_set_refusal (of (on_set 7 (codes "02020" ∷ []) ∷ []) []) ≡ Some (record { no = 3; set = 7 })
unfolding of on_set digits
year_zero = refl

no_mode : first_set_refusal (of (on_set 1 (codes "R" ∷ []) ∷ on_set 2 (codes "T" ∷ []) ∷ on_set 3 (codes "F" ∷ []) ∷ on_set 7 (codes "2020" ∷ []) ∷ []) []) ≡ Some (record { no = 2; set = 5 })
unfolding of on_set digits
no_mode = refl

-- the sets are asked in the order of their numbers, whatever the order of their statements
set_order : first_set_refusal (of (on_set 7 (codes "02020" ∷ []) ∷ on_set 1 (codes "R" ∷ codes "R" ∷ []) ∷ []) []) ≡ Some (record { no = 1; set = 1 })
unfolding of on_set digits
set_order = refl

-- within a set the members are asked in the order of the text
bad_year_first : first_set_refusal (with_set 5 (on_set 7 (codes "2020" ∷ codes "02021" ∷ codes "2020" ∷ []))) ≡ Some (record { no = 3; set = 7 })
unfolding with_set of on_set some_sets digits
bad_year_first = refl

twice_before_bad_year : first_set_refusal (with_set 5 (on_set 7 (codes "2020" ∷ codes "2020" ∷ codes "02021" ∷ []))) ≡ Some (record { no = 1; set = 7 })
unfolding with_set of on_set some_sets digits
twice_before_bad_year = refl

-- an empty set is refused after all members: REGION is empty, and a year stands twice
empty_last : first_set_refusal (of (on_set 7 (codes "2020" ∷ codes "2020" ∷ []) ∷ []) []) ≡ Some (record { no = 1; set = 7 })
unfolding of on_set digits
empty_last = refl

-- ---- refused parameters

with_param : ParamBlock → Option Refusal
with_param statement = first_refusal (of some_sets (but statement))

-- STORAGE goes before everything else
dam : first_refusal (of (on_set 8 (codes "DAM" ∷ []) ∷ some_sets) (by_values 15 (value (codes "X" ∷ []) (pos 0) (place 3 4) ∷ []) ∷ [])) ≡ Some StorageMember
unfolding of on_set some_sets by_values value place
dam = refl

one_unit : with_param (by_default 18 (whole 1)) ≡ Some (AtIndex WholeUnits 18 (codes "R" ∷ codes "T" ∷ codes "2020" ∷ []))
unfolding with_param but of some_sets defaults on_set by_default
one_unit = refl

negative_ratio : with_param (by_default 13 minus_whole) ≡ Some (AtIndex Negative 13 (codes "R" ∷ codes "T" ∷ codes "F" ∷ codes "1" ∷ codes "2020" ∷ []))
unfolding with_param but of some_sets defaults on_set by_default minus_whole
negative_ratio = refl

broken_life : with_param (by_default 11 (pos 1500000000)) ≡ Some (AtIndex NotWhole 11 (codes "R" ∷ codes "T" ∷ []))
unfolding with_param but of some_sets defaults on_set by_default
broken_life = refl

-- -1 stands for no limit; -0.5 doesn't
no_limit : with_param (by_default 19 minus_whole) ≡ None
unfolding with_param but of some_sets defaults on_set by_default minus_whole
no_limit = refl

half_limit : with_param (by_default 19 minus_half) ≡ Some (AtIndex OutOfRange 19 (codes "R" ∷ codes "T" ∷ codes "2020" ∷ []))
unfolding with_param but of some_sets defaults on_set by_default minus_half
half_limit = refl

-- a default out of its range at no index is no fault: there is no emission
no_index : with_param (by_default 34 minus_half) ≡ None
unfolding with_param but of some_sets defaults on_set by_default minus_half
no_index = refl

-- ---- two years

two_years : List SetBlock
two_years = set some_sets 5 (on_set 7 (codes "2020" ∷ codes "2021" ∷ []))

cost : List ℕ → ℤ → ℕ → GivenValue
cost year v line = value (codes "R" ∷ codes "T" ∷ year ∷ []) v (place line 1)

costs : ParamBlock → Option Refusal
costs statement = first_refusal (of two_years (but statement))

-- a value for 2020 alone and no default
missing : costs (by_values 15 (cost (codes "2020") (whole 5) 1 ∷ [])) ≡ Some (AtIndex NoValue 15 (codes "R" ∷ codes "T" ∷ codes "2021" ∷ []))
unfolding costs cost value place but of two_years some_sets defaults on_set by_default by_values
missing = refl

-- one for each year
both : costs (by_values 15 (cost (codes "2021") (whole 5) 1 ∷ cost (codes "2020") (whole 5) 1 ∷ [])) ≡ None
unfolding costs cost value place but of two_years some_sets defaults on_set by_default by_values
both = refl

-- the missing value of 2020 goes before the value of 2021 that is out of range, although the latter stands in the text
missing_first : costs (by_values 5 (value (codes "R" ∷ codes "F" ∷ codes "2021" ∷ []) minus_whole (place 1 1) ∷ [])) ≡ Some (AtIndex NoValue 5 (codes "R" ∷ codes "F" ∷ codes "2020" ∷ []))
unfolding costs value place but of two_years some_sets defaults on_set by_default by_values minus_whole
missing_first = refl

-- of two values out of range the one that is first in the order of the members is refused, not the one that is first in the text
member_order : costs (by_values 20 (cost (codes "2021") minus_whole 1 ∷ cost (codes "2020") minus_half 2 ∷ [])) ≡ Some (AtIndex Negative 20 (codes "R" ∷ codes "T" ∷ codes "2020" ∷ []))
unfolding costs cost value place but of two_years some_sets defaults on_set by_default by_values minus_whole minus_half
member_order = refl

-- ---- three years, of which 2020 and 2022 have a value

three_years : List SetBlock
three_years = set some_sets 5 (on_set 7 (codes "2020" ∷ codes "2021" ∷ codes "2022" ∷ []))

at_ends : ℤ → ℤ → List GivenValue
at_ends first last = cost (codes "2022") last 1 ∷ cost (codes "2020") first 2 ∷ []

least : Option ℤ → List GivenValue → Option Refusal
least default values = first_refusal (of three_years (but (record { param = 20; default = default; values = values })))

-- the gap between them goes before the value of 2022 that is out of range
gap_between : least None (at_ends (whole 5) minus_whole) ≡ Some (AtIndex NoValue 20 (codes "R" ∷ codes "T" ∷ codes "2021" ∷ []))
unfolding least at_ends cost value place but of three_years some_sets defaults on_set by_default minus_whole
gap_between = refl

-- and the value of 2020 goes before the gap
before_the_gap : least None (at_ends minus_whole (whole 5)) ≡ Some (AtIndex Negative 20 (codes "R" ∷ codes "T" ∷ codes "2020" ∷ []))
unfolding least at_ends cost value place but of three_years some_sets defaults on_set by_default minus_whole
before_the_gap = refl

-- a default out of its range is refused at the first index that has no value of its own
default_in_the_gap : least (Some minus_half) (at_ends (whole 5) minus_whole) ≡ Some (AtIndex Negative 20 (codes "R" ∷ codes "T" ∷ codes "2021" ∷ []))
unfolding least at_ends cost value place but of three_years some_sets defaults on_set by_default minus_whole minus_half
default_in_the_gap = refl

-- and nowhere, where each index has one
default_of_none : least (Some minus_half) (cost (codes "2021") (whole 5) 3 ∷ at_ends (whole 5) (whole 5)) ≡ None
unfolding least at_ends cost value place but of three_years some_sets defaults on_set by_default minus_half
default_of_none = refl

-- ---- places of the text

-- the first place that is refused: an unknown name at line 2 goes before a value given twice at line 3, and the other way round
unknown_first : costs (by_values 15 (cost (codes "2020") (whole 5) 1 ∷ cost (codes "2022") (whole 5) 2 ∷ cost (codes "2020") (whole 5) 3 ∷ [])) ≡ Some (UnknownName (place 2 1))
unfolding costs cost value place but of two_years some_sets defaults on_set by_default by_values
unknown_first = refl

twice_first : costs (by_values 15 (cost (codes "2020") (whole 5) 1 ∷ cost (codes "2020") (whole 5) 2 ∷ cost (codes "2022") (whole 5) 3 ∷ [])) ≡ Some (GivenBefore (place 2 1))
unfolding costs cost value place but of two_years some_sets defaults on_set by_default by_values
twice_first = refl

-- an index of unknown names that is given twice is refused as unknown, the first time
unknown_twice : costs (by_values 15 (cost (codes "2022") (whole 5) 1 ∷ cost (codes "2022") (whole 5) 2 ∷ [])) ≡ Some (UnknownName (place 1 1))
unfolding costs cost value place but of two_years some_sets defaults on_set by_default by_values
unknown_twice = refl

-- a value goes before a parameter: the unknown name of the last parameter is refused before the missing value of the first
value_first : first_refusal (of some_sets (by_values 38 (value (codes "X" ∷ codes "Y" ∷ []) (pos 0) (place 9 9) ∷ []) ∷ [])) ≡ Some (UnknownName (place 9 9))
unfolding value place of some_sets on_set by_values
value_first = refl

-- values are asked in the order of the text: the member of a later statement is refused later, whatever the numbers of the parameters
text_order : first_refusal (of two_years (by_values 15 (cost (codes "2022") (whole 5) 1 ∷ []) ∷ by_values 5 (value (codes "R" ∷ codes "X" ∷ codes "2020" ∷ []) (whole 5) (place 2 1) ∷ []) ∷ [])) ≡ Some (UnknownName (place 1 1))
unfolding cost value place of two_years some_sets on_set by_values
text_order = refl

-- and a value given twice in an earlier statement is refused before an unknown member of a later one
twice_in_text_order : first_refusal (of two_years (by_values 15 (cost (codes "2020") (whole 5) 1 ∷ cost (codes "2020") (whole 5) 2 ∷ []) ∷ by_values 5 (value (codes "R" ∷ codes "X" ∷ codes "2020" ∷ []) (whole 5) (place 3 1) ∷ []) ∷ [])) ≡ Some (GivenBefore (place 2 1))
unfolding cost value place of two_years some_sets on_set by_values
twice_in_text_order = refl

-- nobody looks at the members and values of a parameter that isn't used
unused : first_refusal (of some_sets (by_values 39 (value (codes "X" ∷ codes "Y" ∷ []) (pos 0) (place 9 9) ∷ []) ∷ defaults)) ≡ None
unfolding value place of some_sets defaults on_set by_values by_default
unused = refl

-- ---- DiscountRateIdv (55), which is used where the text has a statement for it

-- the base with this statement on it as well
with_second : ParamBlock → Blocks
with_second statement = of some_sets (defaults ++ statement ∷ [])

-- a value of it for T, and for U, which is no technology
rate : ℤ → ℕ → GivenValue
rate v line = value (codes "R" ∷ codes "T" ∷ []) v (place line 1)

rate_of_none : ℤ → ℕ → GivenValue
rate_of_none v line = value (codes "R" ∷ codes "U" ∷ []) v (place line 1)

-- no statement, and it is no parameter of the data
without_second : (data_told base).second ≡ false
unfolding base of some_sets defaults on_set by_default
without_second = refl

-- a default of 0.1
second_by_default : (first_refusal (with_second (by_default 55 (pos 100000000))) ≡ None) × ((data_told (with_second (by_default 55 (pos 100000000)))).second ≡ true) × (value_at (data_told (with_second (by_default 55 (pos 100000000)))) 55 (codes "R" ∷ codes "T" ∷ []) ≡ Some (pos 100000000))
unfolding with_second of some_sets defaults on_set by_default
second_by_default = (refl, refl, refl)

-- a statement without values is one, and no value is found
second_without_values : (data_told (with_second (by_values 55 []))).second ≡ true
unfolding with_second of some_sets defaults on_set by_default by_values
second_without_values = refl

second_missing : first_refusal (with_second (by_values 55 [])) ≡ Some (AtIndex NoValue 55 (codes "R" ∷ codes "T" ∷ []))
unfolding with_second of some_sets defaults on_set by_default by_values
second_missing = refl

-- 1 is in the range, 1.5 and -0.1 aren't
second_whole : first_refusal (with_second (by_default 55 (whole 1))) ≡ None
unfolding with_second of some_sets defaults on_set by_default
second_whole = refl

second_above : first_refusal (with_second (by_default 55 (pos 1500000000))) ≡ Some (AtIndex OutOfRange 55 (codes "R" ∷ codes "T" ∷ []))
unfolding with_second of some_sets defaults on_set by_default
second_above = refl

second_below : first_refusal (with_second (by_values 55 (rate (negsuc 99999999) 1 ∷ []))) ≡ Some (AtIndex OutOfRange 55 (codes "R" ∷ codes "T" ∷ []))
unfolding with_second rate value place of some_sets defaults on_set by_default by_values
second_below = refl

-- its values are asked as those of every used parameter
second_unknown : first_refusal (with_second (by_values 55 (rate_of_none (pos 0) 3 ∷ []))) ≡ Some (UnknownName (place 3 1))
unfolding with_second rate_of_none value place of some_sets defaults on_set by_default by_values
second_unknown = refl

second_twice : first_refusal (with_second (by_values 55 (rate (pos 0) 3 ∷ rate (pos 0) 4 ∷ []))) ≡ Some (GivenBefore (place 4 1))
unfolding with_second rate value place of some_sets defaults on_set by_default by_values
second_twice = refl

-- it comes last: a missing value of another parameter goes before
second_last : first_refusal (of some_sets (but (by_values 12 []) ++ by_values 55 [] ∷ [])) ≡ Some (AtIndex NoValue 12 (codes "R" ∷ codes "T" ∷ codes "2020" ∷ []))
unfolding but of some_sets defaults on_set by_default by_values
second_last = refl
