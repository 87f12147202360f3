-- The definitions, computed on a small model: an activity x of at least 10, a capacity n of at least x, and the cost c = 6n + 2x.
use Rattle.certificate_checker.proofs.Common.{◌≡◌, ℕ, ◌^◌, ℤ, pos, negsuc, Bool, true, false, List, [], ◌∷◌, refl, if◌then◌else◌, is_eq, nat_cmp, difference_formed, all_fit, in_range, Rational, pair, whole, lowest, plus, minus, times, order_of, first_wide, Row, RowName, Sense, Least, Equal, Most, Var, RATE_OF_ACTIVITY, NEW_CAPACITY, TRADE, TOTAL_DISCOUNTED_COST, Column, SumBound, SumCost, SumGap, evaluated, kind_is_free, var_cmp, stands, Plan, Direction, Condition, formed_at, steps, first_failing, model_cost, cost_entries, cost_of, total, gap_formed, gap_condition, is_signed, is_within, absolute, row_condition, sign_condition, below_zero, cost_not_negative, sum_not_positive}
use Rattle.std.specs.Prelude.{Some, None}
use Rattle.exact_num.specs.Gcd.{gcd_of, gcd_within}

abbrev variable : ℕ → Var
variable kind = record { kind = kind; index = record { region = 0; other = 0; slice = 0; tech = 0; fuel = 0; emission = 0; mode = 0; year = 0 } }

abbrev x : Var
x = variable RATE_OF_ACTIVITY

abbrev n : Var
n = variable NEW_CAPACITY

abbrev c : Var
c = variable TOTAL_DISCOUNTED_COST

abbrev name : ℕ → RowName
name eq = record { eq = eq; index = record { region = 0; other = 0; slice = 0; tech = 0; fuel = 0; emission = 0; mode = 0; year = 0 } }

-- ---- conditions in turn

abbrev fine : Condition
fine = record { seen = formed_at SumCost (pos 3 ∷ []); holds = true; reason = cost_not_negative; amount = [] }

abbrev failing : Condition
failing = record { seen = formed_at SumBound (pos 4 ∷ []); holds = false; reason = sum_not_positive; amount = [] }

abbrev wide : Condition
wide = record { seen = formed_at SumGap (pos (2 ^ 127) ∷ []); holds = true; reason = cost_not_negative; amount = [] }

abbrev wide_amount : Condition
wide_amount = record { seen = []; holds = false; reason = below_zero x; amount = formed_at (Column x) (pos (2 ^ 127) ∷ []) }

the_first : first_failing (fine ∷ failing ∷ wide_amount ∷ []) ≡ Some sum_not_positive
the_first = refl

none_fails : first_failing (fine ∷ wide ∷ []) ≡ None
none_fails = refl

-- nothing is computed after the first that fails
nothing_after : first_wide (steps (fine ∷ failing ∷ wide ∷ [])) ≡ None
unfolding first_wide all_fit in_range
nothing_after = refl

-- what is computed before it counts, and so does its amount
wide_before : first_wide (steps (fine ∷ wide ∷ failing ∷ [])) ≡ Some SumGap
unfolding first_wide all_fit in_range
wide_before = refl

wide_at_amount : first_wide (steps (fine ∷ wide_amount ∷ [])) ≡ Some (Column x)
unfolding first_wide all_fit in_range
wide_at_amount = refl

-- an amount that isn't said isn't computed
amount_unsaid : first_wide (steps (fine ∷ record { seen = []; holds = true; reason = below_zero x; amount = formed_at (Column x) (pos (2 ^ 127) ∷ []) } ∷ [])) ≡ None
unfolding first_wide all_fit in_range
amount_unsaid = refl

-- ---- rows

-- the values of a plan: the activity given, the capacity 10, the cost 80
abbrev values : Rational → Var → Rational
values activity v = if is_eq (var_cmp v x) then activity else (if is_eq (var_cmp v n) then whole (pos 10) else whole (pos 80))

-- what is said of a row with these parts
same_row : {X : Type 0} (f : Sense → List (Var × ℤ) → ℤ → X) (row : Row) (sense : Sense) (es : List (Var × ℤ)) (right : ℤ) → row.sense ≡ sense → row.entries.items ≡ es → row.rhs ≡ right → f row.sense row.entries.items row.rhs ≡ f sense es right
same_row f row sense es right p q r = cc

abbrev row_holds : Rational → Sense → List (Var × ℤ) → ℤ → Bool
row_holds activity sense es right = stands sense (evaluated (values activity) es right).top (pos 0)

-- 10 meets x at least 10, and a billionth less doesn't
met : (row : Row) → row.sense ≡ Least → row.entries.items ≡ (x, pos 1) ∷ [] → row.rhs ≡ pos 10 → (row_condition Plan (values (whole (pos 10))) row).holds ≡ true
unfolding plus minus times lowest gcd_of gcd_within
met row p q r = same_row (row_holds (whole (pos 10))) row Least ((x, pos 1) ∷ []) (pos 10) p q r

missed : (row : Row) → row.sense ≡ Least → row.entries.items ≡ (x, pos 1) ∷ [] → row.rhs ≡ pos 10 → (row_condition Plan (values (pair (pos 9999999999) (pos 1000000000))) row).holds ≡ false
unfolding plus minus times lowest gcd_of gcd_within
missed row p q r = same_row (row_holds (pair (pos 9999999999) (pos 1000000000))) row Least ((x, pos 1) ∷ []) (pos 10) p q r

-- as a direction the same row asks for x at least 0
met_by_direction : (row : Row) → row.sense ≡ Least → row.entries.items ≡ (x, pos 1) ∷ [] → row.rhs ≡ pos 10 → (row_condition Direction (values (whole (pos 1))) row).holds ≡ true
unfolding plus minus times lowest gcd_of gcd_within
met_by_direction row p q r = same_row (λ sense es right. row_holds (whole (pos 1)) sense es (pos 0)) row Least ((x, pos 1) ∷ []) (pos 10) p q r

-- ---- signs

signs : (sign_condition (λ v. whole (negsuc 0)) c).holds ≡ true
signs = refl

below : (sign_condition (λ v. whole (negsuc 0)) x).holds ≡ false
below = refl

-- ---- costs

entries_of_cost : cost_entries model_cost (x ∷ n ∷ c ∷ []) ≡ (c, pos 1) ∷ []
entries_of_cost = refl

-- the number of c alone counts
cost_is : cost_of model_cost (x ∷ n ∷ c ∷ []) (λ v. if is_eq (var_cmp v c) then pos 80 else pos 7) ≡ pos 80
cost_is = refl

-- ---- multipliers

-- 1/2 of 3 and -1/3 of 3 are 1/2
summed : total (λ r. if is_eq (nat_cmp r.eq 1) then pair (pos 1) (pos 2) else pair (negsuc 0) (pos 3)) ((name 1, pos 3) ∷ (name 2, pos 3) ∷ []) ≡ pair (pos 1) (pos 2)
unfolding plus times lowest gcd_of gcd_within
summed = refl

at_least : is_signed Least (pos 0) ≡ true
at_least = refl

wrong_at_least : is_signed Least (negsuc 0) ≡ false
wrong_at_least = refl

wrong_at_most : is_signed Most (pos 1) ≡ false
wrong_at_most = refl

any_sign : is_signed Equal (negsuc 0) ≡ true
any_sign = refl

-- a column below its cost is right, unless the variable may be negative
column_below : is_within (kind_is_free NEW_CAPACITY) (order_of (whole (pos 5)) (whole (pos 6))) ≡ true
unfolding order_of
column_below = refl

free_below : is_within (kind_is_free TRADE) (order_of (whole (negsuc 0)) (whole (pos 0))) ≡ false
unfolding order_of
free_below = refl

column_above : is_within (kind_is_free NEW_CAPACITY) (order_of (whole (pos 7)) (whole (pos 6))) ≡ false
unfolding order_of
column_above = refl

size : absolute (pair (negsuc 6) (pos 2)) ≡ pair (pos 7) (pos 2)
size = refl

-- ---- gaps: 10 of 70 is a seventh

within : (gap_condition (whole (pos 80)) (whole (pos 70)) 142858).holds ≡ true
unfolding order_of minus times lowest gcd_of gcd_within
within = refl

just_too_far : (gap_condition (whole (pos 80)) (whole (pos 70)) 142857).holds ≡ false
unfolding order_of minus times lowest gcd_of gcd_within
just_too_far = refl

-- of a negative bound the absolute value counts: 7 of 70
below_zero_within : (gap_condition (whole (negsuc 62)) (whole (negsuc 69)) 100000).holds ≡ true
unfolding order_of minus times lowest gcd_of gcd_within
below_zero_within = refl

below_zero_too_far : (gap_condition (whole (negsuc 62)) (whole (negsuc 69)) 99999).holds ≡ false
unfolding order_of minus times lowest gcd_of gcd_within
below_zero_too_far = refl

-- above a bound of 0 only 0 is
above_none : (gap_condition (whole (pos 1)) (whole (pos 0)) 1000000).holds ≡ false
unfolding order_of minus times lowest gcd_of gcd_within
above_none = refl

-- the part is computed only where the cost is above the bound
only_difference : gap_formed (whole (pos 70)) (whole (pos 80)) 5 ≡ pos 70 ∷ pos 80 ∷ negsuc 9 ∷ pos 1 ∷ []
unfolding difference_formed minus lowest gcd_of gcd_within
only_difference = refl
