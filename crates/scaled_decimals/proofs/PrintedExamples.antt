-- The printed forms computed on worked examples, and on near misses.
use Rattle.scaled_decimals.proofs.Common.{◌≡◌, ◌^◌, ◌-◌, pos, negsuc, length, false, eqb, refl, codes, digits, pair, whole, fraction_text, millionths, millionths_text, places_text, before_point, after_point, read_millionths, nearest}

-- ---- fractions
cost_as_fraction : fraction_text (pair (pos 120132040323) (pos 800000000)) ≡ codes "120132040323/800000000"
unfolding fraction_text digits
cost_as_fraction = refl

negative_as_fraction : fraction_text (pair (negsuc 45) (pos 5)) ≡ codes "-46/5"
unfolding fraction_text digits
negative_as_fraction = refl

-- no denominator where it is 1
whole_as_fraction : fraction_text (whole (negsuc 9)) ≡ codes "-10"
unfolding fraction_text digits
whole_as_fraction = refl

-- ---- the nearest whole number
third : nearest 1 3 ≡ 0
third = refl

two_thirds : nearest 2 3 ≡ 1
two_thirds = refl

half : nearest 1 2 ≡ 1
half = refl

-- one and a half is as near to 1, and two and a half as near to 2
three_halves : nearest 3 2 ≡ 2
three_halves = refl

five_halves : nearest 5 2 ≡ 3
five_halves = refl

five_halves_not_2 : eqb (nearest 5 2) 2 ≡ false
five_halves_not_2 = refl

-- ---- millionths
tie_up : millionths (pair (pos 1) (pos 2000000)) ≡ pos 1
unfolding millionths
tie_up = refl

tie_down : millionths (pair (negsuc 0) (pos 2000000)) ≡ negsuc 0
unfolding millionths
tie_down = refl

below_the_tie : millionths (pair (negsuc 0) (pos 2000001)) ≡ pos 0
unfolding millionths
below_the_tie = refl

-- ---- six places
cost_with_places : places_text (pair (pos 120132040323) (pos 800000000)) ≡ codes "150.165050"
unfolding millionths millionths_text digits
cost_with_places = refl

tie_with_places : places_text (pair (negsuc 0) (pos 2000000)) ≡ codes "-0.000001"
unfolding millionths millionths_text digits
tie_with_places = refl

-- no `-` before what rounds to 0
zero_with_places : places_text (pair (negsuc 0) (pos 2000001)) ≡ codes "0.000000"
unfolding millionths millionths_text digits
zero_with_places = refl

one_with_places : places_text (pair (pos (2 ^ 127 - 2)) (pos (2 ^ 127 - 1))) ≡ codes "1.000000"
unfolding millionths millionths_text digits
one_with_places = refl

greatest_with_places : places_text (whole (negsuc (2 ^ 127 - 2))) ≡ codes "-170141183460469231731687303715884105727.000000"
unfolding millionths millionths_text digits
greatest_with_places = refl

-- ---- read back
read_cost : read_millionths (codes "-150.165050") ≡ negsuc 150165049
unfolding read_millionths before_point after_point
read_cost = refl

read_small : read_millionths (codes "0.000001") ≡ pos 1
unfolding read_millionths before_point after_point
read_small = refl

-- a text with five places isn't one with six
five_places : eqb (length (after_point (codes "0.00001"))) 6 ≡ false
unfolding after_point
five_places = refl

six_places : length (after_point (codes "-150.165050")) ≡ 6
unfolding after_point
six_places = refl
