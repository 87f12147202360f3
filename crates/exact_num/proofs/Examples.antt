-- The definitions computed on worked examples, and on near misses.
use Rattle.exact_num.proofs.Common.{◌≡◌, ℕ, ◌-◌, ◌^◌, pos, negsuc, List, [], ◌∷◌, true, false, Some, None, eqb, refl, Less, Greater, sum_formed, difference_formed, product_formed, quotient_formed, gcd_of, gcd_within, in_range, all_fit, pair, whole, lowest, plus, minus, times, divided, order_of, Step, first_wide}

-- ---- the greatest common divisor
gcd_12_18 : gcd_of 12 18 ≡ 6
unfolding gcd_of gcd_within
gcd_12_18 = refl

-- 3 divides both and is not the greatest
gcd_12_18_not_3 : eqb (gcd_of 12 18) 3 ≡ false
unfolding gcd_of gcd_within
gcd_12_18_not_3 = refl

gcd_zeros : gcd_of 0 0 ≡ 0
unfolding gcd_of gcd_within
gcd_zeros = refl

gcd_zero : gcd_of 0 7 ≡ 7
unfolding gcd_of gcd_within
gcd_zero = refl

gcd_primes : gcd_of 1000000007 998244353 ≡ 1
unfolding gcd_of gcd_within
gcd_primes = refl

-- neighbours in Fibonacci's sequence take the most steps
gcd_fibonacci : gcd_of 99194853094755497 160500643816367088 ≡ 1
unfolding gcd_of gcd_within
gcd_fibonacci = refl

gcd_large : gcd_of (2 ^ 126) (6 ^ 40) ≡ 2 ^ 40
unfolding gcd_of gcd_within
gcd_large = refl

-- ---- the range
ends_fit : all_fit (pos (2 ^ 127 - 1) ∷ negsuc (2 ^ 127 - 2) ∷ pos 0 ∷ []) ≡ true
unfolding all_fit in_range
ends_fit = refl

above_the_end : all_fit (pos 1 ∷ pos (2 ^ 127) ∷ []) ≡ false
unfolding all_fit in_range
above_the_end = refl

-- -2^127 is an i128 and doesn't fit
below_the_end : all_fit (negsuc (2 ^ 127 - 1) ∷ []) ≡ false
unfolding all_fit in_range
below_the_end = refl

-- ---- lowest terms
eight_thirtieths : lowest (pos 8) (pos 30) ≡ pair (pos 4) (pos 15)
unfolding lowest gcd_of gcd_within
eight_thirtieths = refl

sign_in_the_numerator : lowest (pos 6) (negsuc 3) ≡ pair (negsuc 2) (pos 2)
unfolding lowest gcd_of gcd_within
sign_in_the_numerator = refl

two_signs : lowest (negsuc 5) (negsuc 3) ≡ pair (pos 3) (pos 2)
unfolding lowest gcd_of gcd_within
two_signs = refl

zero_is_whole : lowest (pos 0) (negsuc 11) ≡ whole (pos 0)
unfolding lowest gcd_of gcd_within
zero_is_whole = refl

-- ---- 1/6 + 1/10 is 4/15, by way of 5/30 and 3/30
sixth_and_tenth : plus (pair (pos 1) (pos 6)) (pair (pos 1) (pos 10)) ≡ pair (pos 4) (pos 15)
unfolding plus lowest gcd_of gcd_within
sixth_and_tenth = refl

sixth_and_tenth_form : sum_formed (pair (pos 1) (pos 6)) (pair (pos 1) (pos 10)) ≡ pos 5 ∷ pos 3 ∷ pos 8 ∷ pos 30 ∷ []
unfolding sum_formed gcd_of gcd_within
sixth_and_tenth_form = refl

sixth_less_tenth_forms : difference_formed (pair (pos 1) (pos 6)) (pair (pos 1) (pos 10)) ≡ pos 5 ∷ pos 3 ∷ pos 2 ∷ pos 30 ∷ []
unfolding difference_formed gcd_of gcd_within
sixth_less_tenth_forms = refl

sixth_less_sixth : minus (pair (pos 1) (pos 6)) (pair (pos 1) (pos 6)) ≡ whole (pos 0)
unfolding minus lowest gcd_of gcd_within
sixth_less_sixth = refl

-- ---- -4/9 * 3/8 is -1/6, and forms that pair at once
ninths_and_eighths : times (pair (negsuc 3) (pos 9)) (pair (pos 3) (pos 8)) ≡ pair (negsuc 0) (pos 6)
unfolding times lowest gcd_of gcd_within
ninths_and_eighths = refl

ninths_and_eighths_form : product_formed (pair (negsuc 3) (pos 9)) (pair (pos 3) (pos 8)) ≡ negsuc 0 ∷ pos 6 ∷ []
unfolding product_formed gcd_of gcd_within
ninths_and_eighths_form = refl

-- 4/9 / (-2/3) is 4/9 * (-3/2)
ninths_by_thirds : divided (pair (pos 4) (pos 9)) (pair (negsuc 1) (pos 3)) ≡ pair (negsuc 1) (pos 3)
unfolding divided lowest gcd_of gcd_within
ninths_by_thirds = refl

ninths_by_thirds_form : quotient_formed (pair (pos 4) (pos 9)) (pair (negsuc 1) (pos 3)) ≡ negsuc 1 ∷ pos 3 ∷ []
unfolding quotient_formed product_formed gcd_of gcd_within
ninths_by_thirds_form = refl

-- ---- order: equal whole parts don't decide
five_halves_and_nine_quarters : order_of (pair (pos 5) (pos 2)) (pair (pos 9) (pos 4)) ≡ Greater
unfolding order_of
five_halves_and_nine_quarters = refl

negative_order : order_of (pair (negsuc 4) (pos 2)) (pair (negsuc 8) (pos 4)) ≡ Less
unfolding order_of
negative_order = refl

-- ---- steps: the second doesn't fit, and the third isn't looked at
second_stops : let steps : List (Step ℕ) = record { place = 7; formed = pos 1 ∷ [] } ∷ record { place = 8; formed = pos 0 ∷ pos (2 ^ 127) ∷ [] } ∷ record { place = 9; formed = pos (2 ^ 128) ∷ [] } ∷ [] in first_wide steps ≡ Some 8
unfolding first_wide all_fit in_range
second_stops = refl

none_stops : let steps : List (Step ℕ) = record { place = 7; formed = pos 1 ∷ [] } ∷ record { place = 8; formed = [] } ∷ [] in first_wide steps ≡ None
unfolding first_wide all_fit in_range
none_stops = refl
