-- The definitions, computed on small examples, and on near misses.
use Rattle.std.proofs.Common.{◌≡◌, pos, negsuc, None, Some, refl}
use Rattle.exact_num.specs.Gcd.{gcd_of, gcd_within}
use Rattle.exact_num.specs.Range.{in_range}
use Rattle.exact_num.specs.Rational.{lowest, order_of, pair, whole}
use Rattle.scaled_decimals.specs.PrintedPlaces.{millionths}
use Rattle.value_millionths.specs.Outwards.{down, up}
use Rattle.value_millionths.specs.Shown.{shown}

a_third : shown (pair (pos 1) (pos 3)) ≡ Some (pos 333333)
unfolding millionths
a_third = refl

-- a half of a millionth is rounded away from 0, less than that to 0
a_half : shown (pair (negsuc 0) (pos 2000000)) ≡ Some (negsuc 0)
unfolding millionths
a_half = refl

less : shown (pair (pos 1) (pos 2000001)) ≡ Some (pos 0)
unfolding millionths
less = refl

-- the greatest whole number whose millionths are below 2^127, and the next one
greatest : shown (whole (pos 170141183460469231731687303715884)) ≡ Some (pos 170141183460469231731687303715884000000)
unfolding millionths
greatest = refl

too_large : shown (whole (pos 170141183460469231731687303715885)) ≡ None
too_large = refl

-- ---- down and up

third_down : down (pair (pos 1) (pos 3)) ≡ Some (pos 333333)
unfolding millionths gcd_of gcd_within in_range lowest order_of
third_down = refl

-- the nearest number is below it
third_up : up (pair (pos 1) (pos 3)) ≡ Some (pos 333334)
unfolding millionths gcd_of gcd_within in_range lowest order_of
third_up = refl

-- the nearest number is above it
two_thirds_down : down (pair (pos 2) (pos 3)) ≡ Some (pos 666666)
unfolding millionths gcd_of gcd_within in_range lowest order_of
two_thirds_down = refl

-- below 0, down is further from it
negative_down : down (pair (negsuc 0) (pos 3)) ≡ Some (negsuc 333333)
unfolding millionths gcd_of gcd_within in_range lowest order_of
negative_down = refl

-- a number with six decimal places stays
exact_down : down (pair (pos 41) (pos 4)) ≡ Some (pos 10250000)
unfolding millionths gcd_of gcd_within in_range lowest order_of
exact_down = refl

exact_up : up (pair (pos 41) (pos 4)) ≡ Some (pos 10250000)
unfolding millionths gcd_of gcd_within in_range lowest order_of
exact_up = refl

-- the greatest number has none above it
past_the_greatest : up (pair (pos 510423550381407695195061911147652317181) (pos 3000000)) ≡ Some (pos 170141183460469231731687303715884105727)
unfolding millionths gcd_of gcd_within in_range lowest order_of
past_the_greatest = refl
