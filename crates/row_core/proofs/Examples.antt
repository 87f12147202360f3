-- The definitions, computed on examples: some that hold, and near misses that don't.
use Rattle.row_core.proofs.Common.{◌≡◌, ℕ, ◌-◌, ◌^◌, ℤ, pos, negsuc, Bool, true, false, List, [], ◌∷◌, filter, length, map, refl, arith, nat_lt, list_all, range_with_len, nat_cmp, dvd_of_mod-eq-zero, pointwise, Var, equations, Equation, word_of_equation, equation_has, kinds, Kind, word_of_kind, kind_has, kind_is_free, new_capacity, accumulated_new_capacity, caa1, caa2, var_cmp, row_name_cmp, number_at, statement_of, holds, is_plain}
use Rattle.std.specs.Prelude.{codes, count_by, nat_eq, ◌&&◌}
use Rattle.std.specs.declared.cmp.Ordering.TheVariants.{Less, Greater, Equal as Alike}
use Rattle.row_core.specs.declared.kind_numbers.TheConstants.{ANNUAL_EMISSIONS, ANNUAL_FIXED_OPERATING_COST, ANNUAL_TECHNOLOGY_EMISSION, ANNUAL_TECHNOLOGY_EMISSIONS_PENALTY, ANNUAL_TECHNOLOGY_EMISSION_BY_MODE, ANNUAL_TECHNOLOGY_EMISSION_PENALTY_BY_EMISSION, ANNUAL_VARIABLE_OPERATING_COST, CAPITAL_INVESTMENT, DISCOUNTED_CAPITAL_INVESTMENT, DISCOUNTED_OPERATING_COST, DISCOUNTED_SALVAGE_VALUE, DISCOUNTED_TECHNOLOGY_EMISSIONS_PENALTY, KIND_COUNT, MODEL_PERIOD_COST_BY_REGION, MODEL_PERIOD_EMISSIONS, OPERATING_COST, RATE_OF_ACTIVITY, SALVAGE_VALUE, TOTAL_DISCOUNTED_COST, TOTAL_DISCOUNTED_COST_BY_TECHNOLOGY, TRADE, TRADE_ANNUAL}
use Rattle.row_core.specs.declared.Sense.TheVariants.{Least, Equal, Most}
use Rattle.row_core.specs.Numbers.{variables_of, numbers_of, ascends, none_zero, in_range, all_in_range, IsLowest}
use Rattle.row_core.specs.SortKeys.{sort_key}
use Rattle.row_core.proofs.RowLaws.{IsLowest-unit}

-- ---- kinds and equations

number_of_kinds : length kinds ≡ 48
number_of_kinds = refl

number_of_equations : length equations ≡ 64
number_of_equations = refl

-- trades and the nineteen kinds of costs and emissions may be below 0
number_of_free_kinds : count_by (λ (kind : Kind). kind.free) kinds ≡ 20
number_of_free_kinds = refl

-- which: Trade, TradeAnnual, those from CapitalInvestment to ModelPeriodCostByRegion, and AnnualEmissions and ModelPeriodEmissions
free_kinds : filter kind_is_free (range_with_len 1 KIND_COUNT)
    ≡ TRADE ∷ TRADE_ANNUAL
    ∷ CAPITAL_INVESTMENT ∷ DISCOUNTED_CAPITAL_INVESTMENT ∷ SALVAGE_VALUE ∷ DISCOUNTED_SALVAGE_VALUE
    ∷ ANNUAL_VARIABLE_OPERATING_COST ∷ ANNUAL_FIXED_OPERATING_COST ∷ OPERATING_COST ∷ DISCOUNTED_OPERATING_COST
    ∷ ANNUAL_TECHNOLOGY_EMISSION_BY_MODE ∷ ANNUAL_TECHNOLOGY_EMISSION ∷ ANNUAL_TECHNOLOGY_EMISSION_PENALTY_BY_EMISSION
    ∷ ANNUAL_TECHNOLOGY_EMISSIONS_PENALTY ∷ DISCOUNTED_TECHNOLOGY_EMISSIONS_PENALTY
    ∷ TOTAL_DISCOUNTED_COST_BY_TECHNOLOGY ∷ TOTAL_DISCOUNTED_COST ∷ MODEL_PERIOD_COST_BY_REGION
    ∷ ANNUAL_EMISSIONS ∷ MODEL_PERIOD_EMISSIONS ∷ []
free_kinds = refl

first_kind : word_of_kind 1 ≡ codes "RateOfActivity"
first_kind = refl

capacity_kinds : map word_of_kind (2 ∷ 5 ∷ 6 ∷ []) ≡ codes "NewCapacity" ∷ codes "AccumulatedNewCapacity" ∷ codes "TotalCapacityAnnual" ∷ []
capacity_kinds = refl

last_kind : word_of_kind 48 ≡ codes "ModelPeriodEmissions"
last_kind = refl

-- not shifted by one
other_kind : pointwise nat_eq (word_of_kind 4) (codes "AccumulatedNewCapacity") ≡ false
other_kind = refl

-- every place, of those of the subscripts
abbrev places : List ℕ
places = range_with_len 0 8

-- RateOfActivity[r,l,t,m,y]
subscripts_of_activity : map (kind_has 1) places ≡ true ∷ false ∷ true ∷ true ∷ false ∷ false ∷ true ∷ true ∷ []
subscripts_of_activity = refl

-- Trade[r,rr,l,f,y]
subscripts_of_trade : map (kind_has 3) places ≡ true ∷ true ∷ true ∷ false ∷ true ∷ false ∷ false ∷ true ∷ []
subscripts_of_trade = refl

-- NewCapacity[r,t,y] has no mode of operation
no_mode_of_capacity : kind_has 2 6 ≡ false
no_mode_of_capacity = refl

free_trade : kind_is_free 3 ≡ true
free_trade = refl

free_salvage_value : kind_is_free 25 ≡ true
free_salvage_value = refl

bounded_capacity : kind_is_free 2 ≡ false
bounded_capacity = refl

capacity_equations : map word_of_equation (1 ∷ 2 ∷ 3 ∷ 64 ∷ []) ≡ codes "EQ_SpecifiedDemand" ∷ codes "CAa1" ∷ codes "CAa2" ∷ codes "E9" ∷ []
capacity_equations = refl

-- E1[r,t,e,m,y]
subscripts_of_emission : map (equation_has 35) places ≡ true ∷ false ∷ false ∷ true ∷ false ∷ true ∷ true ∷ true ∷ []
subscripts_of_emission = refl

-- every kind's subscripts stand in order among the eight, and so do every equation's
in_order : List ℕ → Bool
in_order subscripts = ascends nat_cmp subscripts && list_all (λ place. nat_lt place 8) subscripts

kinds_in_order : list_all (λ (kind : Kind). in_order kind.subscripts) kinds ≡ true
unfolding in_order
kinds_in_order = refl

equations_in_order : list_all (λ (equation : Equation). in_order equation.subscripts) equations ≡ true
unfolding in_order
equations_in_order = refl

plain_word : is_plain (codes "NewCapacity") ≡ true
plain_word = refl

bracket_in_word : is_plain (codes "New[Capacity") ≡ false
bracket_in_word = refl

comma_in_word : is_plain (codes "New,Capacity") ≡ false
comma_in_word = refl

-- ---- order

kind_first : var_cmp (new_capacity 9 9 9) (accumulated_new_capacity 0 0 0) ≡ Less
kind_first = refl

region_before_technology : var_cmp (new_capacity 1 0 0) (new_capacity 0 1 0) ≡ Greater
region_before_technology = refl

technology_before_year : var_cmp (new_capacity 0 0 1) (new_capacity 0 1 0) ≡ Less
technology_before_year = refl

itself : row_name_cmp (caa1 1 2 3) (caa1 1 2 3) ≡ Alike
itself = refl

equation_first : row_name_cmp (caa2 0 0 0) (caa1 0 0 9) ≡ Greater
equation_first = refl

-- ---- the number by which variables are sorted first, each worked out from the places of its bits

abbrev trade : ℕ → ℕ → Var
trade other slice = record { kind = TRADE; index = record { region = 1; other = other; slice = slice; tech = 0; fuel = 9; emission = 0; mode = 0; year = 11 } }

-- Trade[1,2,5,9,11]
key_of_trade : sort_key (trade 2 5) ≡ 54115849195372555
key_of_trade = refl

-- RateOfActivity[1,5,7,4,11]
key_of_activity : sort_key (record { kind = RATE_OF_ACTIVITY; index = record { region = 1; other = 0; slice = 5; tech = 7; fuel = 0; emission = 0; mode = 4; year = 11 } }) ≡ 18084853182366219
key_of_activity = refl

-- AnnualTechnologyEmission[0,7,6,11]
key_of_emission : sort_key (record { kind = ANNUAL_TECHNOLOGY_EMISSION; index = record { region = 0; other = 0; slice = 0; tech = 7; fuel = 0; emission = 6; mode = 0; year = 11 } }) ≡ 576460752332881931
key_of_emission = refl

-- with up to 64 timeslices it rises with a trade; the next one has the number of the next region's first
key_of_last_slice : nat_lt (sort_key (trade 2 63)) (sort_key (trade 3 0)) ≡ true
key_of_last_slice = refl

key_of_next_slice : sort_key (trade 2 64) ≡ sort_key (trade 3 0)
key_of_next_slice = refl

-- ---- rows

-- the entries of - NewCapacity[0,0,0] + AccumulatedNewCapacity[0,0,0]
abbrev accumulation : List (Var × ℤ)
accumulation = (new_capacity 0 0 0, negsuc 0) ∷ (accumulated_new_capacity 0 0 0, pos 1) ∷ []

ascending : ascends var_cmp (variables_of accumulation) ≡ true
ascending = refl

-- the same variable twice
not_ascending : ascends var_cmp (new_capacity 0 0 0 ∷ new_capacity 0 0 0 ∷ []) ≡ false
not_ascending = refl

no_zero : none_zero (numbers_of accumulation) ≡ true
no_zero = refl

a_zero : none_zero (pos 1 ∷ pos 0 ∷ []) ≡ false
a_zero = refl

greatest_in_range : all_in_range (pos (2 ^ 127 - 1) ∷ negsuc (2 ^ 127 - 2) ∷ []) ≡ true
greatest_in_range = refl

above_range : in_range (pos (2 ^ 127)) ≡ false
above_range = refl

-- -(2^127), which 128 bits hold
below_range : in_range (negsuc (2 ^ 127 - 1)) ≡ false
below_range = refl

-- a plan with these numbers of new and accumulated capacity, and 0 elsewhere
abbrev plan : ℤ → ℤ → Var → ℤ
plan new accumulated = number_at ((new_capacity 0 0 0, new) ∷ (accumulated_new_capacity 0 0 0, accumulated) ∷ [])

balanced : holds (statement_of Equal accumulation (pos 0) 1 (plan (pos 10) (pos 10))) ≡ true
balanced = refl

unbalanced : holds (statement_of Equal accumulation (pos 0) 1 (plan (pos 10) (pos 9))) ≡ false
unbalanced = refl

-- the right side counts q times: 32/2 - 10/2 is 11
over_two : holds (statement_of Equal accumulation (pos 11) 2 (plan (pos 10) (pos 32))) ≡ true
over_two = refl

over_two_missed : holds (statement_of Equal accumulation (pos 11) 2 (plan (pos 10) (pos 21))) ≡ false
over_two_missed = refl

at_least : holds (statement_of Least accumulation (negsuc 0) 1 (plan (pos 10) (pos 9))) ≡ true
at_least = refl

not_at_least : holds (statement_of Least accumulation (pos 0) 1 (plan (pos 10) (pos 9))) ≡ false
not_at_least = refl

at_most : holds (statement_of Most accumulation (negsuc 0) 1 (plan (pos 10) (pos 9))) ≡ true
at_most = refl

not_at_most : holds (statement_of Most accumulation (negsuc 1) 1 (plan (pos 10) (pos 9))) ≡ false
not_at_most = refl

-- 2 divides 4 and -6
not_lowest : IsLowest (pos 4 ∷ negsuc 5 ∷ []) → ⊥
not_lowest lowest =
    let zero : false ≡ true = lowest 2 (omega arith) (dvd_of_mod-eq-zero 2 {n = 4} refl, (dvd_of_mod-eq-zero 2 {n = 6} refl, tt)) in
    cc

-- 2 divides 4 and 3 divides -9, but nothing above 1 divides both and 1
lowest : IsLowest (pos 4 ∷ negsuc 8 ∷ pos 1 ∷ [])
lowest = IsLowest-unit (pos 4 ∷ negsuc 8 ∷ pos 1 ∷ []) refl

-- a row that is all 0 is in lowest terms
lowest_zero : IsLowest (pos 0 ∷ [])
lowest_zero d above divides = refl
