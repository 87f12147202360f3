-- Rows written from their terms, computed: of capacity equations, and of a made model of an energy system with wind power.
use Rattle.row_core.proofs.Common.{◌≡◌, ℕ, ◌-◌, ◌^◌, pos, negsuc, true, false, List, [], ◌∷◌, refl, sum_formed, gcd_of, gcd_within, all_fit, in_range, Rational, pair, whole, plus, lowest, Var, new_capacity, accumulated_new_capacity, total_capacity_annual, gathered, gathered_formed, kept, common_denominator, written_entries, written_right, written_formed}

-- ---- CAa2 at a residual capacity of a half: TotalCapacityAnnual - AccumulatedNewCapacity = 1/2

abbrev total_terms : List (Var × Rational)
total_terms = (total_capacity_annual 0 0 0, whole (pos 1)) ∷ (accumulated_new_capacity 0 0 0, whole (negsuc 0)) ∷ []

-- put in ascending order
total_gathered : gathered total_terms ≡ (accumulated_new_capacity 0 0 0, whole (negsuc 0)) ∷ (total_capacity_annual 0 0 0, whole (pos 1)) ∷ []
total_gathered = refl

total_entries : written_entries (gathered total_terms) (pair (pos 1) (pos 2)) ≡ (accumulated_new_capacity 0 0 0, negsuc 1) ∷ (total_capacity_annual 0 0 0, pos 2) ∷ []
unfolding gcd_of gcd_within
total_entries = refl

total_right : written_right (gathered total_terms) (pair (pos 1) (pos 2)) ≡ pos 1
unfolding gcd_of gcd_within
total_right = refl

total_formed : written_formed (gathered total_terms) (pair (pos 1) (pos 2)) ≡ pos 1 ∷ pos 1 ∷ pos 2 ∷ negsuc 1 ∷ pos 2 ∷ pos 1 ∷ []
unfolding gcd_of gcd_within
total_formed = refl

-- ---- CAb1 of a wind turbine in four equal seasons, with capacity factors 0.2, 0.4, 0.3 and 0.3: the sum of RateOfTotalActivity over 4 is at most 3/10 of TotalCapacityAnnual

abbrev rate_of_total_activity : ℕ → Var
rate_of_total_activity slice = record { kind = 7; index = record { region = 0; other = 0; slice = slice; tech = 4; fuel = 0; emission = 0; mode = 0; year = 0 } }

abbrev quarter : Rational
quarter = pair (pos 1) (pos 4)

abbrev wind_terms : List (Var × Rational)
wind_terms =
    (rate_of_total_activity 0, quarter) ∷ (rate_of_total_activity 1, quarter) ∷ (rate_of_total_activity 2, quarter)
    ∷ (rate_of_total_activity 3, quarter) ∷ (total_capacity_annual 0 4 0, pair (negsuc 2) (pos 10)) ∷ []

-- 20 is the common denominator
wind_denominator : common_denominator (kept (gathered wind_terms)) (whole (pos 0)) ≡ pos 20
unfolding gcd_of gcd_within
wind_denominator = refl

wind_entries : written_entries (gathered wind_terms) (whole (pos 0)) ≡ (total_capacity_annual 0 4 0, negsuc 5) ∷ (rate_of_total_activity 0, pos 5) ∷ (rate_of_total_activity 1, pos 5) ∷ (rate_of_total_activity 2, pos 5) ∷ (rate_of_total_activity 3, pos 5) ∷ []
unfolding gcd_of gcd_within
wind_entries = refl

wind_right : written_right (gathered wind_terms) (whole (pos 0)) ≡ pos 0
unfolding gcd_of gcd_within
wind_right = refl

-- ---- terms of one variable

-- 1/6 and 1/3 of one variable are 1/2, and those of another cancel out
abbrev repeated_terms : List (Var × Rational)
repeated_terms =
    (new_capacity 0 0 0, pair (pos 1) (pos 6)) ∷ (new_capacity 0 0 1, whole (pos 7)) ∷ (new_capacity 0 0 0, pair (pos 1) (pos 3))
    ∷ (new_capacity 0 0 1, whole (negsuc 6)) ∷ []

repeated_gathered : gathered repeated_terms ≡ (new_capacity 0 0 0, pair (pos 1) (pos 2)) ∷ (new_capacity 0 0 1, whole (pos 0)) ∷ []
unfolding plus lowest gcd_of gcd_within
repeated_gathered = refl

-- each sum forms four numbers
repeated_formed : gathered_formed repeated_terms ≡ pos 1 ∷ pos 2 ∷ pos 3 ∷ pos 6 ∷ pos 7 ∷ negsuc 6 ∷ pos 0 ∷ pos 1 ∷ []
unfolding sum_formed plus lowest gcd_of gcd_within
repeated_formed = refl

-- the coefficient 0 is left out
repeated_entries : written_entries (gathered repeated_terms) (pair (pos 3) (pos 2)) ≡ (new_capacity 0 0 0, pos 1) ∷ []
unfolding plus lowest gcd_of gcd_within
repeated_entries = refl

repeated_right : written_right (gathered repeated_terms) (pair (pos 3) (pos 2)) ≡ pos 3
unfolding plus lowest gcd_of gcd_within
repeated_right = refl

-- ---- common divisors

-- 6, -9 and 15 are divided by 3
divided_entries : written_entries ((new_capacity 0 0 0, whole (pos 6)) ∷ (new_capacity 0 0 1, whole (negsuc 8)) ∷ []) (whole (pos 15)) ≡ (new_capacity 0 0 0, pos 2) ∷ (new_capacity 0 0 1, negsuc 2) ∷ []
unfolding gcd_of gcd_within
divided_entries = refl

divided_right : written_right ((new_capacity 0 0 0, whole (pos 6)) ∷ (new_capacity 0 0 1, whole (negsuc 8)) ∷ []) (whole (pos 15)) ≡ pos 5
unfolding gcd_of gcd_within
divided_right = refl

-- a right side alone is 1 or -1, and a row of zeros alone stays
right_alone : written_right [] (pair (negsuc 4) (pos 7)) ≡ negsuc 0
unfolding gcd_of gcd_within
right_alone = refl

zeros_alone : written_right [] (whole (pos 0)) ≡ pos 0
unfolding gcd_of gcd_within
zeros_alone = refl

-- ---- numbers that don't fit

-- 2^127 - 1 and 1 of one variable
sum_too_wide : all_fit (gathered_formed ((new_capacity 0 0 0, whole (pos (2 ^ 127 - 1))) ∷ (new_capacity 0 0 0, whole (pos 1)) ∷ [])) ≡ false
unfolding sum_formed plus lowest gcd_of gcd_within all_fit in_range
sum_too_wide = refl

-- the same numbers of two variables
two_variables_fit : all_fit (gathered_formed ((new_capacity 0 0 0, whole (pos (2 ^ 127 - 1))) ∷ (new_capacity 0 0 1, whole (pos 1)) ∷ [])) ≡ true
unfolding sum_formed plus lowest gcd_of gcd_within all_fit in_range
two_variables_fit = refl

-- a common denominator of 2^100 and 3^50
denominator_too_wide : all_fit (written_formed ((new_capacity 0 0 0, pair (pos 1) (pos (2 ^ 100))) ∷ (new_capacity 0 0 1, pair (pos 1) (pos (3 ^ 50))) ∷ []) (whole (pos 0))) ≡ false
unfolding gcd_of gcd_within all_fit in_range
denominator_too_wide = refl

-- the divisor of the row comes last: both numbers times 2 have to fit, though the row is divided by more
numerator_too_wide : all_fit (written_formed ((new_capacity 0 0 0, whole (pos (2 ^ 126))) ∷ (new_capacity 0 0 1, pair (pos 1) (pos 2)) ∷ []) (whole (pos 0))) ≡ false
unfolding gcd_of gcd_within all_fit in_range
numerator_too_wide = refl

numerator_fits : all_fit (written_formed ((new_capacity 0 0 0, whole (pos (2 ^ 125))) ∷ (new_capacity 0 0 1, pair (pos 1) (pos 2)) ∷ []) (whole (pos 0))) ≡ true
unfolding gcd_of gcd_within all_fit in_range
numerator_fits = refl
