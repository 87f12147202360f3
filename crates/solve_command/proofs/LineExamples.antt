-- The one line of `solve` computed on examples, and on near misses.
use Rattle.solve_command.proofs.Common.{◌≡◌, pos, negsuc, [], false, refl, codes, gcd_of, gcd_within, lowest, minus, pair, plus, whole}
use Rattle.std.specs.Fmt.{digits}
use Rattle.exact_num.specs.Formed.{difference_formed, sum_formed}
use Rattle.exact_num.specs.Range.{all_fit, in_range}
use Rattle.scaled_decimals.specs.PrintedPlaces.{millionths, millionths_text}
use Rattle.solve_command.specs.LineTexts.{infeasible_line, is_in_millionths, solved_line, unbounded_line, up_text}

-- ---- lines

without_plan : infeasible_line 3 ≡ codes "1,,,,3\n"
unfolding digits
without_plan = refl

without_least_cost : unbounded_line 12 ≡ codes "2,,,,12\n"
unfolding digits
without_least_cost = refl

least : solved_line (whole (pos 80)) (whole (pos 80)) 3 ≡ codes "0,80.000000,80.000000,0.000000,3\n"
unfolding digits millionths millionths_text difference_formed minus lowest gcd_of gcd_within all_fit in_range
least = refl

-- cost and bound may be printed alike where the gap isn't 0
near : solved_line (pair (pos 800000001) (pos 10000000)) (whole (pos 80)) 7 ≡ codes "0,80.000000,80.000000,0.000001,7\n"
unfolding digits millionths millionths_text difference_formed sum_formed minus plus lowest gcd_of gcd_within all_fit in_range
near = refl

-- ---- rounding up

-- a whole number of millionths stays
whole_millionths : up_text (pair (pos 17) (pos 500000)) ≡ codes "0.000034"
unfolding digits millionths millionths_text
whole_millionths = refl

-- a third of a millionth more is a millionth more, and not none
third_up : up_text (pair (pos 1) (pos 3)) ≡ codes "0.333334"
unfolding digits millionths millionths_text sum_formed plus lowest gcd_of gcd_within all_fit in_range
third_up = refl

-- below 0 the next millionth is the one nearer to 0
below_zero : up_text (pair (negsuc 0) (pos 3)) ≡ codes "-0.333333"
unfolding digits millionths millionths_text sum_formed plus lowest gcd_of gcd_within all_fit in_range
below_zero = refl

seventh : is_in_millionths (pair (pos 1) (pos 7)) ≡ false
seventh = refl

-- ---- numbers that don't fit

-- a denominator of 2^127 - 1 and half a millionth have no sum that fits
wide_gap : up_text (pair (pos 1) (pos 170141183460469231731687303715884105727)) ≡ []
unfolding sum_formed plus lowest gcd_of gcd_within all_fit in_range
wide_gap = refl
